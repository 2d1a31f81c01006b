-- Each run ends: its instants never fall, and none has more cycles than the limit.
use Rattle.std.proofs.Common.{◌≡◌, ◌≢◌, ◌⊎◌, inl, inr, ⊎_elim, ℕ, zero, suc, ◌+◌, ◌-◌, ◌*◌, ◌<◌, ◌≤◌, Bool, true, false, cond, Option, Some, None, List, [], ◌∷◌, length, refl, sym, ◌∙◌, ap, subst, arith}
use Rattle.std.specs.Prelude.{IfSome, if◌then◌else◌, nat_lt, not, ◌==◌}
use Rattle.std.specs.List.{All, filter}
use Rattle.std.proofs.lemmas.List.Elements.{All-nil, All-cons, All-head, All-tail}
use Rattle.std.proofs.lemmas.Bool.Decides.{nat_tests}
use Rattle.std.proofs.Math.Nat.{mul-le-mul_left}
use Rattle.std.proofs.lemmas.List.Sums.{sum_by-cons}
use Rattle.atomic_face.specs.Classes.{is_at}
use Rattle.model_tree.specs.Tree.{Tree}
use Rattle.run_model.specs.Cycle.{next_of_all}
use Rattle.run_model.specs.Run.{Event, Cycle, RunState, Verdict, Next, ended, cycled, start, first_event, cycles_at, next_cycle, run_from, run_behind, at_last, most_cycles}
use Rattle.run_model.specs.WholeRun.{run}
use Rattle.run_model.specs.Runs.{Runs, ends, goes}
use Rattle.run_model.specs.Waiting.{StandsFrom}
use Rattle.run_model.specs.Instants.{InstantsNeverFall, cycles_at_instant, InstantsOfRuns, RunsEnd, DoneRunsLeaveLater, RunIsARun}
use Rattle.run_model.proofs.WaitingCycle.{cycles-stand, start-stands, is_done, leaves-later, events-later}
use Rattle.run_model.proofs.WaitingCells.{least-parts}
use Rattle.run_model.proofs.Steps.{is_cycled}

-- how many cycles may still come
abbrev room_after : ℕ → ℕ → Option ℕ → ℕ → ℕ
room_after end limit None count = most_cycles end limit
room_after end limit (Some t) count = (end - t) * limit + (limit - count)

abbrev room : ℕ → ℕ → RunState → ℕ
room end limit s = room_after end limit s.last s.count

fewer : (limit a b : ℕ) → a < b → a * limit + limit ≤ b * limit
fewer limit a b lt = omega (arith, mul-le-mul_left {m = a + 1} {n = b} limit (omega (arith, lt)))

room-most : (end limit low count : ℕ) (last : Option ℕ) → IfSome last (λ t. (t ≤ low) × (count ≤ limit)) → room_after end limit last count ≤ most_cycles end limit
room-most end limit low count None h = omega arith
room-most end limit low count (Some t) h = omega (arith, fewer limit (end - t) (end + 1) (omega arith))

room-falls : (end limit low t count : ℕ) (last : Option ℕ) → IfSome last (λ u. (u ≤ low) × (count ≤ limit)) → low ≤ t → t ≤ end → (if is_at t last then count else 0) < limit → room_after end limit (Some t) ((if is_at t last then count else 0) + 1) < room_after end limit last count
room-falls end limit low t count None h from within few = omega (arith, fewer limit (end - t) (end + 1) (omega arith))
room-falls end limit low t count (Some u) h from within few = at (u == t) refl few
  where
    at : (b : Bool) → (u == t) ≡ b → (if b then count else 0) < limit → (end - t) * limit + (limit - ((if b then count else 0) + 1)) < (end - u) * limit + (limit - count)
    at true e few =
        let same : u ≡ t = grind (arith, nat_tests) in
        let p : (end - u) * limit ≡ (end - t) * limit = ap (λ x. (end - x) * limit) same in
        omega (arith, p, few)
    at false e few =
        let before : u ≤ t = omega (arith, h.0, from) in
        let apart : u < t = grind (arith, nat_tests) in
        omega (arith, few, fewer limit (end - t) (end - u) (omega (arith, apart, within)))

cycled-room : (tree : Tree) (end limit low : ℕ) (s n : RunState) (c : Cycle) → StandsFrom limit low s → next_cycle tree end limit s ≡ cycled c n → room end limit n < room end limit s
cycled-room tree end limit low s n c h e =
    let is = is_cycled tree end limit s n c e in
    let t = is.0 in
    let at : c.time ≡ t = ap (λ (d : Cycle). d.time) is.1.cycle in
    let stands = cycles-stand tree end limit low s n c h e in
    let from : low ≤ t = omega (arith, at, stands.from) in
    let within : t ≤ end = is.1.within in
    let falls = room-falls end limit low t s.count s.last h.last from within is.1.few in
    subst (λ (m : RunState). room end limit m < room end limit s) (sym is.1.next) falls

-- ---- a verdict comes

pub counted : (n : ℕ) (tree : Tree) (end limit low : ℕ) (s : RunState) → StandsFrom limit low s → room end limit s ≤ n → Runs tree end limit s (run_from n tree end limit s).cycles (run_from n tree end limit s).verdict (run_from n tree end limit s).left
unfolding run_from
counted zero tree end limit low s h few = go (next_cycle tree end limit s) refl
  where
    go : (x : Next) → next_cycle tree end limit s ≡ x → Runs tree end limit s (at_last s x).cycles (at_last s x).verdict (at_last s x).left
    go (ended v) e = ends e
    go (cycled c m) e = absurd (omega (arith, few, cycled-room tree end limit low s m c h e))
counted (suc n) tree end limit low s h few = go (next_cycle tree end limit s) refl (counted n tree end limit)
  where
    go : (x : Next) → next_cycle tree end limit s ≡ x → ((low : ℕ) (m : RunState) → StandsFrom limit low m → room end limit m ≤ n → Runs tree end limit m (run_from n tree end limit m).cycles (run_from n tree end limit m).verdict (run_from n tree end limit m).left) → Runs tree end limit s (run_behind s x (run_from n tree end limit)).cycles (run_behind s x (run_from n tree end limit)).verdict (run_behind s x (run_from n tree end limit)).left
    go (ended v) e rest = ends e
    go (cycled c m) e rest = goes e (rest c.time m (cycles-stand tree end limit low s m c h e).stands (omega (arith, few, cycled-room tree end limit low s m c h e)))

pub runs-end : RunsEnd
runs-end n tree end limit low s h few = counted n tree end limit low s h (omega (arith, few, room-most end limit low s.count s.last h.last))

-- ---- instants

never_fall : (tree : Tree) (end limit low : ℕ) (s l : RunState) (cs : List Cycle) (v : Verdict) → StandsFrom limit low s → Runs tree end limit s cs v l → InstantsNeverFall low cs
never_fall tree end limit low s l _ v h (ends e) = tt
never_fall tree end limit low s l _ v h (goes {n} {c} {cs} e q) =
    let stands = cycles-stand tree end limit low s n c h e in (stands.from, never_fall tree end limit c.time n l cs v stands.stands q)

abbrev IsWithin : ℕ → Cycle → Type 0
IsWithin end c = c.time ≤ end

within : (tree : Tree) (end limit low : ℕ) (s l : RunState) (cs : List Cycle) (v : Verdict) → StandsFrom limit low s → Runs tree end limit s cs v l → All (IsWithin end) cs
within tree end limit low s l _ v h (ends e) = All-nil (IsWithin end)
within tree end limit low s l _ v h (goes {n} {c} {cs} e q) =
    let stands = cycles-stand tree end limit low s n c h e in
    All-cons (IsWithin end) c cs stands.within (within tree end limit c.time n l cs v stands.stands q)

few : (tree : Tree) (end limit low : ℕ) (s l : RunState) (cs : List Cycle) (v : Verdict) → StandsFrom limit low s → Runs tree end limit s cs v l → length cs ≤ room end limit s
few tree end limit low s l _ v h (ends e) = omega arith
few tree end limit low s l _ v h (goes {n} {c} {cs} e q) =
    let stands = cycles-stand tree end limit low s n c h e in
    omega (arith, few tree end limit c.time n l cs v stands.stands q, cycled-room tree end limit low s n c h e)

abbrev once_at : ℕ → Cycle → ℕ
once_at t c = cond (c.time == t) 1 0

counts : (t : ℕ) (c : Cycle) (cs : List Cycle) → cycles_at_instant t (c ∷ cs) ≡ once_at t c + cycles_at_instant t cs
counts t c cs = sum_by-cons (once_at t) c cs

-- no cycle before the first instant
none_before : (t low : ℕ) (cs : List Cycle) → t < low → InstantsNeverFall low cs → cycles_at_instant t cs ≡ 0
none_before t low [] lt h = refl
none_before t low (c ∷ cs) lt h =
    let apart : c.time ≢ t = omega (arith, h.0) in
    let test : (c.time == t) ≡ false = grind (arith, nat_tests) in
    let zero : once_at t c ≡ 0 = ap (λ b. cond b 1 0) test in
    omega (arith, counts t c cs, zero, none_before t c.time cs (omega (arith, h.0)) h.1)

-- the cycles so far at an instant
so_far : (limit low t count : ℕ) (last : Option ℕ) → IfSome last (λ u. (u ≤ low) × (count ≤ limit)) → (if is_at t last then count else 0) ≤ limit
so_far limit low t count None h = omega arith
so_far limit low t count (Some u) h = at (u == t)
  where
    at : (b : Bool) → (if b then count else 0) ≤ limit
    at true = h.1
    at false = omega arith

none_or_last : (limit low t count : ℕ) (last : Option ℕ) → IfSome last (λ u. (u ≤ low) × (count ≤ limit)) → ((if is_at t last then count else 0) ≡ 0) ⊎ (t ≤ low)
none_or_last limit low t count None h = inl refl
none_or_last limit low t count (Some u) h = at (u == t) refl
  where
    at : (b : Bool) → (u == t) ≡ b → ((if b then count else 0) ≡ 0) ⊎ (t ≤ low)
    at true e = let same : u ≡ t = grind (arith, nat_tests) in inr (omega (arith, h.0))
    at false e = inl refl

-- one cycle more, at this instant or at another
one_more : (limit low t u before : ℕ) (s n : RunState) (c : Cycle) (cs : List Cycle) → cycles_at t s ≤ limit → (cycles_at t s ≡ 0) ⊎ (t ≤ low) → low ≤ u → c.time ≡ u → before ≡ cycles_at u s → cycles_at t n ≡ (if u == t then before + 1 else 0) → InstantsNeverFall u cs → cycles_at t n + cycles_at_instant t cs ≤ limit → cycles_at t s + (once_at t c + cycles_at_instant t cs) ≤ limit
one_more limit low t u before s n c cs most none from at is next fall h = go (u == t) refl (next ∙ refl)
  where
    once : (b : Bool) → (u == t) ≡ b → once_at t c ≡ cond b 1 0
    once b e = ap (λ x. cond (x == t) 1 0) at ∙ ap (λ d. cond d 1 0) e

    go : (b : Bool) → (u == t) ≡ b → cycles_at t n ≡ (if u == t then before + 1 else 0) → cycles_at t s + (once_at t c + cycles_at_instant t cs) ≤ limit
    go true e f =
        let same : u ≡ t = grind (arith, nat_tests) in
        let here : before ≡ cycles_at t s = is ∙ ap (λ x. cycles_at x s) same in
        let counted : cycles_at t n ≡ before + 1 = f ∙ ap (λ d. cond d (before + 1) 0) e in
        omega (arith, h, once true e, here, counted)
    go false e f =
        let apart : u ≢ t = grind (arith, nat_tests) in
        ⊎_elim (λ (zero : cycles_at t s ≡ 0). omega (arith, h, zero, once false e))
        (λ (le : t ≤ low). omega (arith, most, once false e, none_before t u cs (omega (arith, le, from, apart)) fall)) none

at_one : (tree : Tree) (end limit low : ℕ) (s l : RunState) (cs : List Cycle) (v : Verdict) → StandsFrom limit low s → Runs tree end limit s cs v l → (t : ℕ) → cycles_at t s + cycles_at_instant t cs ≤ limit
at_one tree end limit low s l _ v h (ends e) t = omega (arith, so_far limit low t s.count s.last h.last)
at_one tree end limit low s l _ v h (goes {n} {c} {cs} e q) t =
    let is = is_cycled tree end limit s n c e in
    let u = is.0 in
    let at : c.time ≡ u = ap (λ (d : Cycle). d.time) is.1.cycle in
    let stands = cycles-stand tree end limit low s n c h e in
    let fall = never_fall tree end limit c.time n l cs v stands.stands q in
    let next : cycles_at t n ≡ (if u == t then cycles_at u s + 1 else 0) = ap (cycles_at t) is.1.next in
    let most = so_far limit low t s.count s.last h.last in
    let rest = at_one tree end limit c.time n l cs v stands.stands q t in
    subst (λ k. cycles_at t s + k ≤ limit) (sym (counts t c cs))
    (one_more limit low t u (cycles_at u s) s n c cs most (none_or_last limit low t s.count s.last h.last) (omega (arith, at, stands.from)) at refl next (subst (λ x. InstantsNeverFall x cs) at fall) rest)

pub instants-of-runs : InstantsOfRuns
instants-of-runs tree end limit low s l cs v h r = record {
  never_fall = never_fall tree end limit low s l cs v h r;
  within = within tree end limit low s l cs v h r;
  few_at_one = λ t. omega (arith, at_one tree end limit low s l cs v h r t);
  few = omega (arith, few tree end limit low s l cs v h r, room-most end limit low s.count s.last h.last);
}

-- ---- what a run that is done leaves

abbrev later : ℕ → Event → Bool
later end e = nat_lt end e.time

all_later : (end : ℕ) (es : List Event) → All (λ (e : Event). end + 1 ≤ e.time) es → es ≡ filter (later end) es
all_later end [] h = refl
all_later end (e ∷ es) h =
    let after : end + 1 ≤ e.time = All-head (λ (e : Event). end + 1 ≤ e.time) e es h in
    let test : true ≡ later end e = grind (arith, nat_tests) in
    ap (λ l. e ∷ l) (all_later end es (All-tail (λ (e : Event). end + 1 ≤ e.time) e es h)) ∙ ap (λ b. cond b (e ∷ filter (later end) es) (filter (later end) es)) test

-- an event that is taken isn't after the end
taken-not_later : (end t : ℕ) (es : List Event) → t ≤ end → filter (later end) (filter (λ (e : Event). not (e.time == t)) es) ≡ filter (later end) es
taken-not_later end t [] le = refl
taken-not_later end t (e ∷ es) le = go (e.time == t) refl (taken-not_later end t es le)
  where
    go : (b : Bool) → (e.time == t) ≡ b → filter (later end) (filter (λ (e : Event). not (e.time == t)) es) ≡ filter (later end) es → filter (later end) (cond (not b) (e ∷ filter (λ (e : Event). not (e.time == t)) es) (filter (λ (e : Event). not (e.time == t)) es)) ≡ filter (later end) (e ∷ es)
    go true is same =
        let at : e.time ≡ t = grind (arith, nat_tests) in
        let test : false ≡ later end e = grind (arith, nat_tests) in
        same ∙ ap (λ b. cond b (e ∷ filter (later end) es) (filter (later end) es)) test
    go false is same = ap (λ l. cond (later end e) (e ∷ l) l) same

pub done-leaves-later : DoneRunsLeaveLater
done-leaves-later tree end limit low s l _ h (ends e) =
    let parts = least-parts (end + 1) (next_of_all s.leaf_states) (first_event s.events) (is_done tree end limit s e) in
    record { leaves = leaves-later low (end + 1) s.leaf_states parts.0 h.leaves; events = all_later end s.events (events-later (end + 1) s.events parts.1) }
done-leaves-later tree end limit low s l _ h (goes {n} {c} {cs} e q) =
    let is = is_cycled tree end limit s n c e in
    let stands = cycles-stand tree end limit low s n c h e in
    let rest = done-leaves-later tree end limit c.time n l cs stands.stands q in
    record { leaves = rest.leaves; events = rest.events ∙ ap (λ (m : RunState). filter (later end) m.events) is.1.next ∙ taken-not_later end is.0 s.events is.1.within }

pub run-is-a-run : RunIsARun
unfolding run
run-is-a-run tree events end limit = runs-end (most_cycles end limit) tree end limit 0 (start tree events) (start-stands tree events limit) (omega arith)
