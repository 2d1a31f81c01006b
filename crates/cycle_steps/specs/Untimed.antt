-- Records as the code keeps them, without the time of their cycle.
use Rattle.std.specs.Prelude.{List, map}
use Rattle.run_model.specs.Run.{PortRecord}
use Rattle.text_forms.specs.declared.records.YRecord.{YRecord}
use Rattle.text_forms.specs.declared.records.XRecord.{XRecord}

-- a Y or an N record
abbrev pub y_record : YRecord → PortRecord
y_record r = record { leaf = r.leaf; port = r.port.0; value = r.value }

-- an X record
abbrev pub x_record : XRecord → PortRecord
x_record r = record { leaf = r.leaf; port = r.port.0; value = r.value }

-- Y or N records
abbrev pub y_records : List YRecord → List PortRecord
y_records rs = map y_record rs

-- X records
abbrev pub x_records : List XRecord → List PortRecord
x_records rs = map x_record rs
