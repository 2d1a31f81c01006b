-- Records as the program holds them: each with the time of its cycle.
use Rattle.std.specs.Prelude.{◌≡◌, ℕ, [], map}
use Rattle.run_model.specs.Run.{PortRecord, StateRecord, OutRecord, Cycle}
use Rattle.text_forms.specs.declared.records.YRecord.{YRecord}
use Rattle.text_forms.specs.declared.records.XRecord.{XRecord}
use Rattle.text_forms.specs.declared.records.SRecord.{SRecord}
use Rattle.text_forms.specs.declared.records.OutRecord as held
use Rattle.text_forms.specs.declared.records.Records.{Records}

-- a value that was given in a cycle of this time
abbrev pub y_at : ℕ → PortRecord → YRecord
y_at t r = record { time = t; leaf = r.leaf; port = record { 0 = r.port }; value = r.value }

-- a value that reached a leaf in a cycle of this time
abbrev pub x_at : ℕ → PortRecord → XRecord
x_at t r = record { time = t; leaf = r.leaf; port = record { 0 = r.port }; value = r.value }

-- a leaf that moved in a cycle of this time
abbrev pub s_at : ℕ → StateRecord → SRecord
s_at t r = record { time = t; leaf = r.leaf; value = r.value; next = r.next }

-- a value at an output of top in a cycle of this time
abbrev pub out_at : ℕ → OutRecord → held.OutRecord
out_at t r = record { time = t; port = r.port; value = r.value }

-- the records are those of a cycle
pub record Holds (records : Records) (c : Cycle) : Type 0 where
  pub y : records.y.items ≡ map (y_at c.time) c.y
  pub n : records.n.items ≡ map (y_at c.time) c.n
  pub x : records.x.items ≡ map (x_at c.time) c.x
  pub s : records.s.items ≡ map (s_at c.time) c.s
  pub out : records.out.items ≡ map (out_at c.time) c.out

-- there are no records
pub record AreEmpty (records : Records) : Type 0 where
  pub y : records.y.items ≡ []
  pub n : records.n.items ≡ []
  pub x : records.x.items ≡ []
  pub s : records.s.items ≡ []
  pub out : records.out.items ≡ []
