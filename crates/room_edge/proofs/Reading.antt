-- What is left of an input of which a part was read.
use Rattle.std.proofs.Common.{◌≡◌, ℕ, ◌≤◌, ◌+◌, ◌↔◌, length, List, [], ◌++◌, take, drop, Option, Some, None, Ok, Err, refl, ◌∙◌, ap, sym, subst, arith, append-nil, append_assoc, take-append-drop, Bool, true}
use Rattle.std.specs.Prelude.{IfSome, if◌then◌else◌}
use Rattle.std.proofs.Math.Seq.{drop-append-add}
use Rattle.std.proofs.lemmas.List.{length-append, take-take, take-append-le}
use Rattle.room_edge.specs.Outside.{Outside}
use Rattle.room_edge.specs.Only.{OnlyRest}
use Rattle.room_edge.specs.Calls.{Reads}
use Rattle.room_edge.specs.Faults.{Rose}
use Rattle.room_edge.specs.Whole.{ReadsRest}
use Rattle.room_edge.specs.declared.room.ReadFailed.{ReadFailed}
use Rattle.room_edge.specs.declared.whole.ReadWhole.TheVariants as read
use Rattle.room_edge.proofs.Only.{OnlyInput-refl, OnlyInput-trans}

-- of what was left at first, the first bytes were taken
abbrev pub Left : Option (List ℕ) → List ℕ → Option (List ℕ) → Type 0
Left was taken now = IfSome was (λ all. (rest : List ℕ) × (now ≡ Some rest) × (all ≡ taken ++ rest))

-- n bytes are taken of what is left
abbrev pub Takes : Option (List ℕ) → List ℕ → ℕ → Option (List ℕ) → Type 0
Takes now into n new = IfSome now (λ rest. (n ≤ length rest) × (take n into ≡ take n rest) × (new ≡ Some (drop n rest)))

-- what holds of all holds of what is told
pub told : {X : Type 0} (o : Option X) (P : X → Type 0) → ((x : X) → P x) → IfSome o P
told None P all = tt
told (Some x) P all = all x

at_some : {X : Type 0} (P : X → Type 0) (o : Option X) (x : X) → o ≡ Some x → IfSome o P → P x
at_some P o x is p = subst (λ o. IfSome o P) is p

-- the front of a piece was added, of which a part was filled
pub front_added : (added : Bool) (n many : ℕ) (was new into rest piece : List ℕ) → new ≡ (if added then was ++ take n piece else was) → added ≡ true
    → piece ≡ take many (into ++ rest) → n ≤ length into → length into ≤ many → new ≡ was ++ take n into
front_added added n many was new into rest piece is all filled within fits =
    is ∙ ap (λ b. if b then was ++ take n piece else was) all ∙ ap (λ l. was ++ take n l) filled
    ∙ ap (λ l. was ++ l) (take-take n many (into ++ rest) (omega (arith, within, fits)) ∙ take-append-le n into rest within)

-- nothing was taken
pub none_taken : (was : Option (List ℕ)) (taken : List ℕ) → taken ≡ [] → Left was taken was
none_taken None taken none = tt
none_taken (Some all) taken none = (all, refl, ap (λ t. t ++ all) (sym none))

-- n more were taken
pub more_taken : (was now new : Option (List ℕ)) (taken into after : List ℕ) (n : ℕ) → after ≡ taken ++ take n into → Left was taken now → Takes now into n new → Left was after new
more_taken None now new taken into after n is before step = tt
more_taken (Some all) now new taken into after n is before step =
    let rest = before.0 in
    let took = at_some (λ rest. (n ≤ length rest) × (take n into ≡ take n rest) × (new ≡ Some (drop n rest))) now rest before.1 step in
    (drop n rest, took.2, before.2 ∙ ap (λ l. taken ++ l) (sym (take-append-drop n rest)) ∙ sym (append_assoc taken (take n rest) (drop n rest)) ∙ ap (λ l. (taken ++ l) ++ drop n rest) (sym took.1) ∙ ap (λ l. l ++ drop n rest) (sym is))

-- none was left
pub all_taken : (was now new : Option (List ℕ)) (taken into : List ℕ) (n : ℕ) → n ≡ 0 → Left was taken now → Takes now into n new
    → IfSome now (λ rest. (n ≡ 0) ↔ (rest ≡ [])) → IfSome was (λ all. (all ≡ taken) × (new ≡ Some []))
all_taken None now new taken into n zero before step end = tt
all_taken (Some all) now new taken into n zero before step end =
    let rest = before.0 in
    let took = at_some (λ rest. (n ≤ length rest) × (take n into ≡ take n rest) × (new ≡ Some (drop n rest))) now rest before.1 step in
    let none = (at_some (λ rest. (n ≡ 0) ↔ (rest ≡ [])) now rest before.1 end).0 zero in
    (before.2 ∙ ap (λ l. taken ++ l) none ∙ append-nil taken, took.2 ∙ ap (λ k. Some (drop k rest)) zero ∙ ap Some none)

-- the bytes that were taken, and n more, are not all
pub some_left : (was now new : Option (List ℕ)) (taken into : List ℕ) (n many count : ℕ) → many ≡ count + n → count ≡ length taken → Left was taken now → Takes now into n new
    → IfSome was (λ all. (many ≤ length all) × (new ≡ Some (drop many all)))
some_left None now new taken into n many count is counted before step = tt
some_left (Some all) now new taken into n many count is counted before step =
    let rest = before.0 in
    let took = at_some (λ rest. (n ≤ length rest) × (take n into ≡ take n rest) × (new ≡ Some (drop n rest))) now rest before.1 step in
    let long : length all ≡ length taken + length rest = ap length before.2 ∙ length-append taken rest in
    let many_is : many ≡ length taken + n = is ∙ ap (λ k. k + n) counted in
    (omega (arith, long, many_is, took.0), took.2 ∙ ap Some (sym (drop-append-add taken rest n) ∙ ap (λ k. drop k (taken ++ rest)) (sym many_is) ∙ ap (drop many) (sym before.2)))

pub OnlyRest-refl : (a : Outside) → OnlyRest a a
OnlyRest-refl a = record { input = OnlyInput-refl a; misses = refl; tried = refl; opened = refl }

pub OnlyRest-trans : (a b c : Outside) → OnlyRest a b → OnlyRest b c → OnlyRest a c
OnlyRest-trans a b c p q = record { input = OnlyInput-trans a b c p.input q.input; misses = q.misses ∙ p.misses; tried = q.tried ∙ p.tried; opened = q.opened ∙ p.opened }

-- a piece could not be read
pub piece_failed : {T : Type 0} (error : ReadFailed) (limit : ℕ) (taken into : List ℕ) (was now new : Outside)
    → now.read_faults ≡ was.read_faults → OnlyRest was now → Reads (Err error) into now new → ReadsRest {T = T} (Err read.ReadFault) limit taken was new
piece_failed error limit taken into was now new same only step = record {
  bytes = told was.rest _ (λ _. tt);
  within = tt;
  counted = subst (λ n. Rose n new.read_faults) same step.failed;
  faults = omega (arith, same, step.faults);
  only = OnlyRest-trans was now new only step.only;
}

-- the last piece was read
pub piece_ended : {T : Type 0} (x : T) (limit n : ℕ) (taken into : List ℕ) (was now new : Outside)
    → n ≡ 0 → length taken ≤ limit → Left was.rest taken now.rest → now.read_faults ≡ was.read_faults → OnlyRest was now
    → Reads (Ok n) into now new → ReadsRest (Ok x) limit taken was new
piece_ended x limit n taken into was now new zero short before same only step = record {
  bytes = all_taken was.rest now.rest new.rest taken into n zero before step.bytes step.end;
  within = short;
  counted = step.ok ∙ same;
  faults = omega (arith, same, step.faults);
  only = OnlyRest-trans was now new only step.only;
}

-- a piece goes past the limit
pub piece_past : {T : Type 0} (limit n count : ℕ) (taken into : List ℕ) (was now new : Outside)
    → count + n ≡ limit + 1 → count ≡ length taken → Left was.rest taken now.rest → now.read_faults ≡ was.read_faults → OnlyRest was now
    → Reads (Ok n) into now new → ReadsRest {T = T} (Err (read.TooLong (count + n))) limit taken was new
piece_past limit n count taken into was now new past counted before same only step = record {
  bytes = some_left was.rest now.rest new.rest taken into n (count + n) count refl counted before step.bytes;
  within = past;
  counted = step.ok ∙ same;
  faults = omega (arith, same, step.faults);
  only = OnlyRest-trans was now new only step.only;
}

-- there is no memory for a piece that was read
pub piece_lost : {T : Type 0} (limit n : ℕ) (taken into : List ℕ) (was now new : Outside)
    → now.read_faults ≡ was.read_faults → OnlyRest was now → Reads (Ok n) into now new → ReadsRest {T = T} (Err read.Memory) limit taken was new
piece_lost limit n taken into was now new same only step = record {
  bytes = told was.rest _ (λ _. tt);
  within = tt;
  counted = step.ok ∙ same;
  faults = omega (arith, same, step.faults);
  only = OnlyRest-trans was now new only step.only;
}
