-- The first leaves of lists, and those behind them.
use Rattle.std.proofs.Common.{◌≡◌, ◌≢◌, ℕ, zero, suc, ◌<◌, ◌≤◌, Option, Some, None, set, refl, sym, ap, ◌∙◌, arith}
use Rattle.std.specs.Prelude.{IfSome}
use Rattle.std.proofs.lemmas.List.{get_or-set_other}
use Rattle.time_queue.specs.Waiting.{waiting_time, least_time}
use Rattle.time_queue.specs.Lists.{AreLinked, Links, time_of_first, link_of}
use Rattle.time_queue.specs.declared.lists.Lists.{Lists}
use Rattle.time_queue.proofs.Least.{least_reached, least_below, least_is, no_least, none_waits}

-- ---- the first leaves stand for all

first_parts : (b t : Option ℕ) (v : ℕ) → time_of_first b t ≡ Some v → (b ≡ None) × (t ≡ Some v)
first_parts None t v is = (refl, is)
first_parts (Some b) t v is = cc

module _ (T H B N : ℕ → Option ℕ) (links : Links T H B N None) where
  no_one : (z : ℕ) → None ≢ Some z
  no_one z e = cc

  pub first_waits : (h t : ℕ) → H h ≡ Some t → (B h ≡ None) × (T h ≡ Some t)
  first_waits h t is = first_parts (B h) (T h) t (sym (links.firsts h (no_one h)) ∙ is)

  by_before : (y t : ℕ) (o : Option ℕ) → B y ≡ o → T y ≡ Some t → ((x : ℕ) → links.rank x < links.rank y → T x ≡ Some t → (h : ℕ) × (H h ≡ Some t)) → (h : ℕ) × (H h ≡ Some t)
  by_before y t None is waits before = (y, links.firsts y (no_one y) ∙ (λ i. time_of_first (is i) (waits i)))
  by_before y t (Some x) is waits before =
      let there = links.back x y is in
      let alike = (links.forth x y there.0).1 in
      before x there.1 (alike.one ∙ sym alike.other ∙ waits)

  -- from each leaf that waits, those before it lead to a first one
  pub leads : (n y t : ℕ) → links.rank y ≤ n → T y ≡ Some t → (h : ℕ) × (H h ≡ Some t)
  leads zero y t le waits = by_before y t (B y) refl waits (λ x lt is. absurd (omega arith))
  leads (suc n) y t le waits = by_before y t (B y) refl waits (λ x lt is. leads n x t (omega arith) is)

least_first_at : (l : Lists) (o : Option ℕ) → AreLinked l None → least_time l.firsts ≡ o → least_time l.times.items ≡ o
least_first_at l None linked is =
    no_least l.times.items (λ leaf t waits.
    let there = leads _ _ _ _ linked.links (linked.links.rank leaf) leaf t (omega arith) waits in
    none_waits l.firsts is there.0 t there.1)
least_first_at l (Some m) linked is =
    let reached = least_reached l.firsts m is in
    let first = first_waits _ _ _ _ linked.links reached.0 m reached.1 in
    least_is l.times.items reached.0 m first.1 (λ leaf t waits.
    let there = leads _ _ _ _ linked.links (linked.links.rank leaf) leaf t (omega arith) waits in
    let below = least_below l.firsts there.0 t there.1 in
    let same : below.0 ≡ m = cc (below.1, is) in
    omega (arith, below.2))

-- the least of the first ones is the least of all
pub least_first : (l : Lists) → AreLinked l None → least_time l.times.items ≡ least_time l.firsts
least_first l linked = least_first_at l (least_time l.firsts) linked refl

-- the leaf behind the loose one waits for the same time
pub next_alike : (l l' : Lists) (leaf at : ℕ) (r : Option ℕ) → AreLinked l (Some leaf) → waiting_time l.times.items leaf ≡ Some at → r ≡ link_of l.after.items leaf → l'.times.items ≡ set l.times.items leaf None → IfSome r (λ x. waiting_time l'.times.items x ≡ Some at)
next_alike l l' leaf at None linked waits next times = tt
next_alike l l' leaf at (Some x) linked waits next times =
    let forth = linked.links.forth leaf x (sym next) in
    let loose = linked.links.loose_one leaf refl in
    let apart : x ≢ leaf = λ e. cc (forth.0, loose.ahead) in
    ap (λ ts. waiting_time ts x) times ∙ get_or-set_other l.times.items leaf x None None apart ∙ forth.1.other ∙ sym forth.1.one ∙ waits
