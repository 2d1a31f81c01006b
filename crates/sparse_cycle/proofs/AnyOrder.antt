-- Leaves that move in any order.
use Rattle.std.proofs.Common.{◌≡◌, ℕ, zero, suc, Some, List, [], ◌∷◌, map, set, refl, sym, ◌∙◌, ap}
use Rattle.run_model.specs.Cycle.{LeafState, leaf_emitted, after}
use Rattle.sparse_cycle.specs.Sparse.{leaf_of, move_to, moved_from}
use Rattle.sparse_cycle.specs.AnyOrder.{SeeAlike, BecomesTheSame, MovesUnseen, UndueAreQuiet}
use Rattle.sparse_cycle.proofs.Quiet.{quiet-emitted, quiet-collected, waits-from}
use Rattle.sparse_cycle.proofs.Asked.{from-emitted}
use Rattle.sparse_cycle.proofs.Sights.{emitted_of, emitted-at, at-alike, moved-at-emits}

pub becomes-the-same : BecomesTheSame
becomes-the-same t l states now woken bag leaf alike is =
    at-alike t now (map (leaf_emitted t) states) woken bag (Some leaf) (leaf_of now l) (λ j. sym (emitted-at now j) ∙ alike j ∙ emitted-at (map (leaf_emitted t) states) j)
    ∙ ap (moved_from t (map (leaf_emitted t) states) woken bag leaf) is
    ∙ sym (from-emitted t (map (leaf_emitted t) states) woken bag leaf (leaf_of states l))

-- one leaf that has emitted the same is set
set-alike : (now : List LeafState) (l : ℕ) (x : LeafState)
    → emitted_of x ≡ emitted_of (leaf_of now l) → SeeAlike (set now l x) now
set-alike [] l x e j = refl
set-alike (s ∷ ss) zero x e zero = e
set-alike (s ∷ ss) zero x e (suc j) = refl
set-alike (s ∷ ss) (suc l) x e zero = refl
set-alike (s ∷ ss) (suc l) x e (suc j) = set-alike ss l x e j

pub moves-unseen : MovesUnseen
moves-unseen t l now woken bag leaf =
    set-alike now l (after (leaf_of now l) (move_to t now woken bag leaf (leaf_of now l))) (moved-at-emits t now woken bag leaf (leaf_of now l))

pub undue-are-quiet : UndueAreQuiet
undue-are-quiet t l s next off =
    record {
      gives = quiet-collected t (leaf_of s.leaf_states l) (waits-from t s next l) off;
      stays = quiet-emitted t (leaf_of s.leaf_states l) (waits-from t s next l) off;
    }
