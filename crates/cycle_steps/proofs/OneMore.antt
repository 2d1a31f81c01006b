-- One item more in loops that append, and in loops that gather what is so of some item.
use Rattle.std.proofs.Common.{◌≡◌, ℕ, ◌+◌, ◌<◌, ◌≤◌, Bool, true, false, cond, ◌||◌, eqb, List, [], ◌∷◌, ◌++◌, map, length, drop, set, get_or, refl, sym, ◌∙◌, ap, append_assoc, append-nil}
use Rattle.std.proofs.lemmas.Bool.{eqb-true, eqb-false}
use Rattle.std.proofs.lemmas.Grind.{get_or-set_at}
use Rattle.std.proofs.lemmas.List.{drop_more, drop_all, get_or-set_other}
use Rattle.std.proofs.lemmas.List.Folds.{list_any-append}
use Rattle.quantity.specs.declared.value.Value.{Value}
use Rattle.model_leaves.specs.declared.path.TargetPort.{TargetPort}
use Rattle.model_leaves.specs.declared.path.TargetPort.TheVariants as target
use Rattle.text_forms.specs.Held.{x_at, out_at}
use Rattle.leaf_set.specs.Members.{is_in}
use Rattle.quantity.specs.Bytes.{has_number}
use Rattle.cycle_steps.specs.Routed.{fed_to, out_to}
use Rattle.cycle_steps.proofs.Marked.{or-regroup}

or-none : (b : Bool) → b ≡ (b || false)
or-none true = refl
or-none false = refl

first-of : {A : Type 0} (xs : List A) (i : ℕ) (x d : A) → i < length xs → x ≡ get_or xs i d → drop i xs ≡ x ∷ drop (i + 1) xs
first-of xs i x d lt is = drop_more xs i d lt ∙ ap (λ z. z ∷ drop (i + 1) xs) (sym is)

-- what is appended for a list is that for its first item and then that for the others
appends-at : {A C : Type 0} (given : List A → List C) → ((x : A) (xs : List A) → given (x ∷ xs) ≡ given (x ∷ []) ++ given xs)
    → (xs : List A) (i : ℕ) (x d : A) (all old new : List C) → i < length xs → x ≡ get_or xs i d
    → all ≡ old ++ given (drop i xs) → new ≡ old ++ given (x ∷ []) → all ≡ new ++ given (drop (i + 1) xs)
appends-at given split xs i x d all old new lt is so now =
    let rest = drop (i + 1) xs in
    so ∙ ap (λ zs. old ++ given zs) (first-of xs i x d lt is) ∙ ap (λ ys. old ++ ys) (split x rest)
    ∙ sym (append_assoc old (given (x ∷ [])) (given rest)) ∙ ap (λ ys. ys ++ given rest) (sym now)

pub appends-more : {A C : Type 0} (given : List A → List C) → ((x : A) (xs : List A) → given (x ∷ xs) ≡ given (x ∷ []) ++ given xs)
    → (xs : List A) (i : ℕ) (x : A) (all old new : List C) → i < length xs → x ≡ get_or xs i x
    → all ≡ old ++ given (drop i xs) → new ≡ old ++ given (x ∷ []) → all ≡ new ++ given (drop (i + 1) xs)
appends-more given split xs i x all old new lt is so now = appends-at given split xs i x x all old new lt is so now

-- where the items are numbers or made of them, each is read out of the list
pub appends-next : {A C : Type 0} (given : List A → List C) → ((x : A) (xs : List A) → given (x ∷ xs) ≡ given (x ∷ []) ++ given xs)
    → (xs : List A) (i : ℕ) (d : A) (all old new : List C) → i < length xs
    → all ≡ old ++ given (drop i xs) → new ≡ old ++ given (get_or xs i d ∷ []) → all ≡ new ++ given (drop (i + 1) xs)
appends-next given split xs i d all old new lt so now = appends-at given split xs i (get_or xs i d) d all old new lt refl so now

-- one of a list has it where the first has it or one of the others
pub has-more : {A : Type 0} (some : List A → Bool) (test : A → Bool) → ((x : A) (xs : List A) → some (x ∷ xs) ≡ (test x || some xs))
    → (xs : List A) (i : ℕ) (x d : A) (all old new : Bool) → i < length xs → x ≡ get_or xs i d
    → all ≡ (old || some (drop i xs)) → new ≡ (old || test x) → all ≡ (new || some (drop (i + 1) xs))
has-more some test split xs i x d all old new lt is so now =
    let rest = some (drop (i + 1) xs) in
    so ∙ ap (λ zs. old || some zs) (first-of xs i x d lt is) ∙ ap (λ b. old || b) (split x (drop (i + 1) xs))
    ∙ or-regroup old (test x) rest ∙ ap (λ b. b || rest) (sym now)

-- ---- at a loop's end

pub appended-all : {A C : Type 0} (given : List A → List C) → given [] ≡ [] → (xs : List A) (i : ℕ) (all now : List C) → length xs ≤ i → all ≡ now ++ given (drop i xs) → now ≡ all
appended-all given none xs i all now past so =
    sym (so ∙ ap (λ zs. now ++ given zs) (drop_all i xs past) ∙ ap (λ ys. now ++ ys) none ∙ append-nil now)

pub had-all : {A : Type 0} (some : List A → Bool) → some [] ≡ false → (xs : List A) (i : ℕ) (all now : Bool) → length xs ≤ i → all ≡ (now || some (drop i xs)) → now ≡ all
had-all some none xs i all now past so =
    sym (so ∙ ap (λ zs. now || some zs) (drop_all i xs past) ∙ ap (λ b. now || b) none ∙ sym (or-none now))

-- ---- what is kept of a list by a test

pub map-kept : {A B : Type 0} (f : A → B) (b : Bool) (x : A) (xs : List A) → map f (cond b (x ∷ xs) xs) ≡ map f (cond b (x ∷ []) []) ++ map f xs
map-kept f true x xs = refl
map-kept f false x xs = refl

pub fed-kept : {A : Type 0} (value : A → Value) (t : ℕ) (to : TargetPort) (b : Bool) (x : A) (xs : List A)
    → map (x_at t) (fed_to to (map value (cond b (x ∷ xs) xs))) ≡ map (x_at t) (fed_to to (map value (cond b (x ∷ []) []))) ++ map (x_at t) (fed_to to (map value xs))
fed-kept value t (target.Leaf l port) true x xs = refl
fed-kept value t (target.Leaf l port) false x xs = refl
fed-kept value t (target.TopOut k) b x xs = refl

pub out-kept : {A : Type 0} (value : A → Value) (t : ℕ) (to : TargetPort) (b : Bool) (x : A) (xs : List A)
    → map (out_at t) (out_to to (map value (cond b (x ∷ xs) xs))) ≡ map (out_at t) (out_to to (map value (cond b (x ∷ []) []))) ++ map (out_at t) (out_to to (map value xs))
out-kept value t (target.Leaf l port) b x xs = refl
out-kept value t (target.TopOut k) true x xs = refl
out-kept value t (target.TopOut k) false x xs = refl

-- ---- sets

-- numbers that are appended are among all
pub among-more : (old more new : List ℕ) (k : ℕ) → new ≡ old ++ more → has_number new k ≡ (has_number old k || has_number more k)
among-more old more new k is = ap (λ ls. has_number ls k) is ∙ list_any-append (λ l. eqb l k) old more

or-right : (b : Bool) → true ≡ (b || true)
or-right true = refl
or-right false = refl

marked-by : (b : Bool) (ms : List Bool) (l k : ℕ) → eqb l k ≡ b → l < length ms → is_in (set ms l true) k ≡ (is_in ms k || b)
marked-by true ms l k is lt = get_or-set_at ms l k true false (sym (eqb-true l k is)) lt ∙ or-right (is_in ms k)
marked-by false ms l k is lt = get_or-set_other ms l k true false (λ e. eqb-false l k is (sym e)) ∙ or-none (is_in ms k)

-- who is in where one leaf is marked
pub in-marked : (ms : List Bool) (l k : ℕ) → l < length ms → is_in (set ms l true) k ≡ (is_in ms k || eqb l k)
in-marked ms l k lt = marked-by (eqb l k) ms l k refl lt
