-- A whole file, by how its reading ends.
use Rattle.std.proofs.Common.{◌≡◌, ◌<◌, ◌≤◌, true, false, Some, None, refl, ap, ◌∙◌, arith, length, nat_lt}
use Rattle.std.specs.Prelude.{List, if◌then◌else◌}
use Rattle.std.specs.declared.result.Result.TheVariants.{Ok, Err}
use Rattle.std.proofs.lemmas.Bool.Decides.{nat_tests}
use Rattle.quantity.specs.Bytes.{Bytes}
use Rattle.source_text.specs.Lines.{filled_lines}
use Rattle.event_list.specs.declared.refusal.EventRefusal.{EventRefusal}
use Rattle.event_list.specs.declared.refusal.EventRefusal.TheVariants.{TooLarge}
use Rattle.event_list.specs.Events.{by_time, events_of, events_refused, file_refused}
use Rattle.event_list.specs.LineByLine.{events_in}

pub too_large : (bytes : Bytes) (ports : List Bytes) → 16777216 < length bytes → events_of bytes ports ≡ Err (TooLarge 0)
unfolding events_of
too_large bytes ports more =
    let large : nat_lt 16777216 (length bytes) ≡ true = grind (arith, nat_tests) in
    let is : file_refused ports bytes ≡ Some (TooLarge 0) = ap (λ b. if b then Some (TooLarge 0) else events_refused ports 0 (filled_lines bytes)) large in
    rw is refl

pub refused : (bytes : Bytes) (ports : List Bytes) (refusal : EventRefusal) → length bytes ≤ 16777216 → events_refused ports 0 (filled_lines bytes) ≡ Some refusal → events_of bytes ports ≡ Err refusal
unfolding events_of
refused bytes ports refusal few e =
    let small : nat_lt 16777216 (length bytes) ≡ false = grind (arith, nat_tests) in
    let is : file_refused ports bytes ≡ Some refusal = ap (λ b. if b then Some (TooLarge 0) else events_refused ports 0 (filled_lines bytes)) small ∙ e in
    rw is refl

pub accepted : (bytes : Bytes) (ports : List Bytes) → length bytes ≤ 16777216 → events_refused ports 0 (filled_lines bytes) ≡ None → events_of bytes ports ≡ Ok (by_time (events_in ports (filled_lines bytes)))
unfolding events_of
accepted bytes ports few e =
    let small : nat_lt 16777216 (length bytes) ≡ false = grind (arith, nat_tests) in
    let is : file_refused ports bytes ≡ None = ap (λ b. if b then Some (TooLarge 0) else events_refused ports 0 (filled_lines bytes)) small ∙ e in
    rw is refl
