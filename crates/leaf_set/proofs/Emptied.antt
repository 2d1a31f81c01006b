-- A set that is emptied from the front.
use Rattle.std.proofs.Common.{◌≡◌, ℕ, suc, ◌+◌, ◌-◌, ◌<◌, ◌≤◌, Bool, true, false, cond, List, [], ◌∷◌, ◌++◌, length, drop, set, get_or, replicate, refl, sym, ◌∙◌, ap, append_assoc, append-nil, arith, length-append}
use Rattle.std.specs.List.{filter, range_with_len}
use Rattle.std.proofs.lemmas.List.{drop_more, drop_all, set_at, get_or_at, replicate_more, length-replicate}
use Rattle.leaf_set.specs.Members.{is_in, members_of}
use Rattle.leaf_set.specs.Members.{one_member}

-- the members of the first i leaves are taken
pub record IsTaken (start now : List Bool) (items : List ℕ) (i : ℕ) : Type 0 where
  pub items_are : items ++ filter (is_in start) (range_with_len i (length start - i)) ≡ members_of start
  pub now_is : now ≡ replicate i false ++ drop i start
  pub few : length items ≤ i

pub none-taken : (start : List Bool) → IsTaken start start [] 0
none-taken start =
    let whole : length start - 0 ≡ length start = omega arith in
    record { items_are = ap (λ n. filter (is_in start) (range_with_len 0 n)) whole; now_is = refl; few = omega arith }

same-there : (start : List Bool) (i : ℕ) → i < length start → is_in (replicate i false ++ drop i start) i ≡ is_in start i
same-there start i lt =
    ap (λ rest. is_in (replicate i false ++ rest) i) (drop_more start i false lt) ∙ get_or_at (replicate i false) (get_or start i false) (drop (i + 1) start) false i (length-replicate i false)

set-there : (start : List Bool) (i : ℕ) → i < length start → set (replicate i false ++ drop i start) i false ≡ replicate (i + 1) false ++ drop (i + 1) start
set-there start i lt =
    let rest = drop (i + 1) start in
    ap (λ tail. set (replicate i false ++ tail) i false) (drop_more start i false lt)
    ∙ set_at (replicate i false) (get_or start i false) rest false i (length-replicate i false)
    ∙ sym (append_assoc (replicate i false) (false ∷ []) rest)
    ∙ ap (λ front. front ++ rest) (replicate_more i false)

one-by : (b : Bool) (i : ℕ) (items rest : List ℕ) → items ++ cond b (i ∷ rest) rest ≡ (items ++ one_member b i) ++ rest
one-by true i items rest = sym (append_assoc items (i ∷ []) rest)
one-by false i items rest = ap (λ front. front ++ rest) (sym (append-nil items))

member-long : (b : Bool) (i : ℕ) → length (one_member b i) ≤ 1
member-long true i = omega arith
member-long false i = omega arith

range-by : (i m n : ℕ) (test : ℕ → Bool) → m ≡ suc n → filter test (range_with_len i m) ≡ cond (test i) (i ∷ filter test (range_with_len (i + 1) n)) (filter test (range_with_len (i + 1) n))
range-by i m n test is = ap (λ k. filter test (range_with_len i k)) is

pub one-taken : (start now next : List Bool) (items more : List ℕ) (i : ℕ) → IsTaken start now items i → i < length start → more ≡ items ++ one_member (is_in now i) i → next ≡ set now i false → IsTaken start next more (i + 1)
one-taken start now next items more i h lt is left =
    let here : is_in now i ≡ is_in start i = ap (λ ms. is_in ms i) h.now_is ∙ same-there start i lt in
    let rest = filter (is_in start) (range_with_len (i + 1) (length start - (i + 1))) in
    let long = ap length is ∙ length-append items (one_member (is_in now i) i) in
    let low = h.few in
    let one = member-long (is_in now i) i in
    record {
      items_are =
          ap (λ ls. ls ++ rest) (is ∙ ap (λ b. items ++ one_member b i) here) ∙ sym (one-by (is_in start i) i items rest)
          ∙ ap (λ ls. items ++ ls) (sym (range-by i (length start - i) (length start - (i + 1)) (is_in start) (omega (arith, lt)))) ∙ h.items_are;
      now_is = left ∙ ap (λ ms. set ms i false) h.now_is ∙ set-there start i lt;
      few = omega (arith, long, low, one);
    }

pub all-taken : (start now : List Bool) (items : List ℕ) (i : ℕ) → IsTaken start now items i → i ≡ length start → (items ≡ members_of start) × (now ≡ replicate (length start) false)
all-taken start now items i h is =
    let none : length start - i ≡ 0 = omega (arith, is) in (
      sym (append-nil items) ∙ ap (λ n. items ++ filter (is_in start) (range_with_len i n)) (sym none) ∙ h.items_are,
      h.now_is ∙ ap (λ ms. replicate i false ++ ms) (drop_all i start (omega (arith, is))) ∙ append-nil (replicate i false) ∙ ap (λ n. replicate n false) is,
    )
