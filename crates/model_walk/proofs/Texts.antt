-- Texts behind references, one by one.
use Rattle.std.proofs.Common.{◌≡◌, Bool, List, Bor}
use Rattle.std.proofs.lemmas.List.Folds.{list_all-map}
use Rattle.std.specs.List.{list_all}
use Rattle.quantity.specs.Bytes.{Bytes}
use Rattle.source_text.specs.Shown.{texts}
pub use Rattle.model_walk.proofs.Named.{among_texts}

pub all_texts : (test : Bytes → Bool) (names : List (Bor Bytes)) → list_all test (texts names) ≡ list_all (λ (r : Bor Bytes). test r.now) names
all_texts test names = list_all-map test (λ (r : Bor Bytes). r.now) names
