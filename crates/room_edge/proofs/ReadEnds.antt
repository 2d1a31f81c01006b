-- A file that is read whole: it is opened, and what is left of it is taken.
use Rattle.std.proofs.Common.{◌≡◌, ℕ, ◌≤◌, ◌+◌, length, List, false, Option, Some, None, Result, Ok, Err, Vec, is_some, refl, ◌∙◌, ap, sym, subst, arith, inl, inr}
use Rattle.std.specs.Prelude.{IfSome, IsSomeAnd, IfOk, IsErrOf, ⊤}
use Rattle.std.specs.declared.alloc.Global.{Global}
use Rattle.std.proofs.lemmas.Bool.{false≢true}
use Rattle.std.proofs.lemmas.Option.{IfSome_then}
use Rattle.room_edge.specs.Outside.{Outside}
use Rattle.room_edge.specs.Only.{OnlyInput}
use Rattle.room_edge.specs.Calls.{Opens}
use Rattle.room_edge.specs.Faults.{Rose, MissCounted, ReadFaultCounted}
use Rattle.room_edge.specs.FaultCounts.{KeepsMisses, KeepsReadFaults}
use Rattle.room_edge.specs.Whole.{IsReadOf, IsLeftOf, KeepsOpen, Tries, CountsMissOfWhole, CountsFaultOfWhole, unopened_as, ReadsRest}
use Rattle.room_edge.specs.declared.room.OpenError.{OpenError}
use Rattle.room_edge.specs.declared.room.OpenError.TheVariants as open_error
use Rattle.room_edge.specs.declared.whole.ReadWhole.{ReadWhole}
use Rattle.room_edge.specs.declared.whole.ReadWhole.TheVariants as read
use Rattle.room_edge.proofs.Only.{OnlyInput-refl, OnlyInput-trans}
use Rattle.room_edge.proofs.Reading.{told}

abbrev Answer : Type 0
Answer = Result (Vec ℕ Global) ReadWhole

-- all that is said of a whole read
pub record ReadsWhole (result : Answer) (name : List ℕ) (limit : ℕ) (old new : Outside) : Type 0 where
  pub bytes : IfSome old.files (λ files. IsReadOf files name limit result)
  pub left : IfSome old.files (λ files. IsLeftOf files name result new.rest)
  pub short : IfOk result (λ bytes. length bytes.items ≤ limit)
  pub missing : IsErrOf result read.Missing → MissCounted old new
  pub fault : IsErrOf result read.ReadFault → ReadFaultCounted old new
  pub long : (n : ℕ) → IsErrOf result (read.TooLong n) → n ≡ limit + 1
  pub tried : Tries result name old.tried new.tried
  pub opened : KeepsOpen result old new
  pub counts_misses : CountsMissOfWhole result old.misses new.misses
  pub counts_faults : CountsFaultOfWhole result old.read_faults new.read_faults
  pub misses : KeepsMisses old new
  pub faults : KeepsReadFaults old new
  pub only : OnlyInput old new

abbrev IsLong : Answer → ℕ → Type 0
IsLong (Ok _) limit = ⊤
IsLong (Err (read.TooLong n)) limit = n ≡ limit + 1
IsLong (Err read.Missing) limit = ⊤
IsLong (Err read.ReadFault) limit = ⊤
IsLong (Err read.Memory) limit = ⊤

counted_miss : (result : Answer) (old new : ℕ) → CountsMissOfWhole result old new → IsErrOf result read.Missing → Rose old new
counted_miss result old new counts is = subst (λ (r : Answer). CountsMissOfWhole r old new) is counts

counted_fault : (result : Answer) (old new : ℕ) → CountsFaultOfWhole result old new → IsErrOf result read.ReadFault → Rose old new
counted_fault result old new counts is = subst (λ (r : Answer). CountsFaultOfWhole r old new) is counts

long_by : (result : Answer) (limit n : ℕ) → IsLong result limit → IsErrOf result (read.TooLong n) → n ≡ limit + 1
long_by result limit n long is = subst (λ (r : Answer). IsLong r limit) is long

none_of : {X : Type 0} (o : Option X) → is_some o ≡ false → o ≡ None
none_of None is = refl
none_of (Some x) is = absurd (false≢true (sym is))

found : (here rest : Option (List ℕ)) (P : List ℕ → Type 0) (Q : Type 0) → IsSomeAnd here (λ b. rest ≡ Some b) → IfSome rest P → ((b : List ℕ) → here ≡ Some b → P b → Q) → Q
found None rest P Q at p then = absurd at
found (Some b) rest P Q at p then = then b refl (subst (λ o. IfSome o P) at p)

-- there is no memory for a piece
pub no_piece : (name : List ℕ) (limit : ℕ) (old : Outside) → ReadsWhole (Err read.Memory) name limit old old
no_piece name limit old = record {
  bytes = told old.files _ (λ _. tt);
  left = told old.files _ (λ _. tt);
  short = tt;
  missing = counted_miss (Err read.Memory) old.misses old.misses refl;
  fault = counted_fault (Err read.Memory) old.read_faults old.read_faults refl;
  long = λ n. long_by (Err read.Memory) limit n tt;
  tried = inl refl;
  opened = λ is. is;
  counts_misses = refl;
  counts_faults = refl;
  misses = omega arith;
  faults = omega arith;
  only = OnlyInput-refl old;
}

-- the file was not opened, by cause
by_cause : {T : Type 0} (error : OpenError) (name : List ℕ) (limit : ℕ) (old new : Outside) → Opens {T = T} (Err error) name old new → ReadsWhole (Err (unopened_as error)) name limit old new
by_cause open_error.Missing name limit old new opens = record {
  bytes = IfSome_then old.files (opens.absent refl) (λ files. none_of (files name));
  left = told old.files _ (λ _. tt);
  short = tt;
  missing = λ _. opens.missing;
  fault = counted_fault (Err read.Missing) old.read_faults new.read_faults opens.failed;
  long = λ n. long_by (Err read.Missing) limit n tt;
  tried = opens.tried;
  opened = opens.err;
  counts_misses = opens.missing;
  counts_faults = opens.failed;
  misses = opens.misses;
  faults = opens.faults;
  only = opens.only;
}
by_cause open_error.Failed name limit old new opens = record {
  bytes = told old.files _ (λ _. tt);
  left = told old.files _ (λ _. tt);
  short = tt;
  missing = counted_miss (Err read.ReadFault) old.misses new.misses opens.missing;
  fault = λ _. opens.failed;
  long = λ n. long_by (Err read.ReadFault) limit n tt;
  tried = opens.tried;
  opened = λ was. opens.err.0 ∙ was;
  counts_misses = opens.missing;
  counts_faults = opens.failed;
  misses = opens.misses;
  faults = opens.faults;
  only = opens.only;
}
by_cause open_error.Memory name limit old new opens = record {
  bytes = told old.files _ (λ _. tt);
  left = told old.files _ (λ _. tt);
  short = tt;
  missing = counted_miss (Err read.Memory) old.misses new.misses opens.missing;
  fault = counted_fault (Err read.Memory) old.read_faults new.read_faults opens.failed;
  long = λ n. long_by (Err read.Memory) limit n tt;
  tried = inl opens.tried;
  opened = λ was. opens.err.0 ∙ was;
  counts_misses = opens.missing;
  counts_faults = opens.failed;
  misses = opens.misses;
  faults = opens.faults;
  only = opens.only;
}

-- the file was not opened
pub not_opened : {T : Type 0} (error : OpenError) (why : ReadWhole) (name : List ℕ) (limit : ℕ) (old new : Outside)
    → why ≡ unopened_as error → Opens {T = T} (Err error) name old new → ReadsWhole (Err why) name limit old new
not_opened error why name limit old new is opens =
    subst (λ w. ReadsWhole (Err w) name limit old new) (sym is) (by_cause error name limit old new opens)

-- what was counted, and what was left alone, from the start to the end
fewer : (old mid new : ℕ) → old ≤ mid → new ≡ mid → old ≤ new
fewer old mid new before same = omega arith

-- the input was taken to its end
pub taken_whole : {S T : Type 0} (x : S) (y : T) (bytes : Vec ℕ Global) (name : List ℕ) (limit : ℕ) (old mid new : Outside)
    → Opens (Ok x) name old mid → ReadsRest (Ok y) limit bytes.items mid new → ReadsWhole (Ok bytes) name limit old new
taken_whole x y bytes name limit old mid new opens rest =
    let counts = rest.counted ∙ opens.failed in
    let misses = rest.only.misses ∙ opens.missing in
    record {
      bytes = IfSome_then old.files opens.rest (λ files at. found (files name) mid.rest _ _ at rest.bytes (λ b is all. (is ∙ ap Some all.0, rest.within)));
      left = IfSome_then old.files opens.rest (λ files at. found (files name) mid.rest _ _ at rest.bytes (λ b is all. all.1));
      short = rest.within;
      missing = counted_miss (Ok bytes) old.misses new.misses misses;
      fault = counted_fault (Ok bytes) old.read_faults new.read_faults counts;
      long = λ n. long_by (Ok bytes) limit n tt;
      tried = rest.only.tried ∙ opens.tried;
      opened = rest.only.opened ∙ opens.opened;
      counts_misses = misses;
      counts_faults = counts;
      misses = fewer old.misses mid.misses new.misses opens.misses rest.only.misses;
      faults = omega (arith, opens.faults, rest.faults);
      only = OnlyInput-trans old mid new opens.only rest.only.input;
    }

-- the input was not taken to its end
pub not_taken : {S T : Type 0} (x : S) (why : ReadWhole) (taken : List ℕ) (name : List ℕ) (limit : ℕ) (old mid new : Outside)
    → Opens (Ok x) name old mid → ReadsRest {T = T} (Err why) limit taken mid new → ReadsWhole (Err why) name limit old new
not_taken x read.Missing taken name limit old mid new opens rest = absurd rest.within
not_taken x read.ReadFault taken name limit old mid new opens rest =
    let misses = rest.only.misses ∙ opens.missing in
    let counts = subst (λ n. Rose n new.read_faults) opens.failed rest.counted in
    record {
      bytes = told old.files _ (λ _. tt);
      left = told old.files _ (λ _. tt);
      short = tt;
      missing = counted_miss (Err read.ReadFault) old.misses new.misses misses;
      fault = λ _. counts;
      long = λ n. long_by (Err read.ReadFault) limit n tt;
      tried = rest.only.tried ∙ opens.tried;
      opened = λ _. rest.only.opened ∙ opens.opened;
      counts_misses = misses;
      counts_faults = counts;
      misses = fewer old.misses mid.misses new.misses opens.misses rest.only.misses;
      faults = omega (arith, opens.faults, rest.faults);
      only = OnlyInput-trans old mid new opens.only rest.only.input;
    }
not_taken x (read.TooLong many) taken name limit old mid new opens rest =
    let misses = rest.only.misses ∙ opens.missing in
    let counts = rest.counted ∙ opens.failed in
    record {
      bytes = IfSome_then old.files opens.rest (λ files at. found (files name) mid.rest _ _ at rest.bytes (λ b is part. (b, is, rest.within, part.0)));
      left = IfSome_then old.files opens.rest (λ files at. found (files name) mid.rest _ _ at rest.bytes (λ b is part. (b, is, part.1)));
      short = tt;
      missing = counted_miss (Err (read.TooLong many)) old.misses new.misses misses;
      fault = counted_fault (Err (read.TooLong many)) old.read_faults new.read_faults counts;
      long = λ n. long_by (Err (read.TooLong many)) limit n rest.within;
      tried = rest.only.tried ∙ opens.tried;
      opened = rest.only.opened ∙ opens.opened;
      counts_misses = misses;
      counts_faults = counts;
      misses = fewer old.misses mid.misses new.misses opens.misses rest.only.misses;
      faults = omega (arith, opens.faults, rest.faults);
      only = OnlyInput-trans old mid new opens.only rest.only.input;
    }
not_taken x read.Memory taken name limit old mid new opens rest =
    let misses = rest.only.misses ∙ opens.missing in
    let counts = rest.counted ∙ opens.failed in
    record {
      bytes = told old.files _ (λ _. tt);
      left = told old.files _ (λ _. tt);
      short = tt;
      missing = counted_miss (Err read.Memory) old.misses new.misses misses;
      fault = counted_fault (Err read.Memory) old.read_faults new.read_faults counts;
      long = λ n. long_by (Err read.Memory) limit n tt;
      tried = inr (rest.only.tried ∙ opens.tried);
      opened = λ _. rest.only.opened ∙ opens.opened;
      counts_misses = misses;
      counts_faults = counts;
      misses = fewer old.misses mid.misses new.misses opens.misses rest.only.misses;
      faults = omega (arith, opens.faults, rest.faults);
      only = OnlyInput-trans old mid new opens.only rest.only.input;
    }
