-- The numbers of a range that pass a test.
use Rattle.std.proofs.Common.{◌≡◌, ℕ, zero, suc, ◌+◌, ◌-◌, ◌<◌, ◌≤◌, Bool, true, false, cond, List, [], ◌∷◌, ◌++◌, length, refl, sym, ◌∙◌, ap, append_assoc, arith, length-append}
use Rattle.leaf_set.specs.Words.{those_from}

step : (p : ℕ → Bool) (a n : ℕ) → those_from p a (suc n) ≡ cond (p a) (a ∷ those_from p (a + 1) n) (those_from p (a + 1) n)
unfolding those_from
step p a n = refl

cond-append : (b : Bool) (x : ℕ) (xs ys : List ℕ) → cond b (x ∷ (xs ++ ys)) (xs ++ ys) ≡ cond b (x ∷ xs) xs ++ ys
cond-append true x xs ys = refl
cond-append false x xs ys = refl

pub those-split : (p : ℕ → Bool) (a m n b : ℕ) → a + m ≡ b → those_from p a (m + n) ≡ those_from p a m ++ those_from p b n
unfolding those_from
those-split p a zero n b is =
    let whole : zero + n ≡ n = omega arith in
    let start : a ≡ b = omega arith in
    ap (λ k. those_from p a k) whole ∙ ap (λ k. those_from p k n) start
those-split p a (suc m) n b is =
    let whole : suc m + n ≡ suc (m + n) = omega arith in
    ap (λ k. those_from p a k) whole ∙ step p a (m + n)
    ∙ ap (λ ls. cond (p a) (a ∷ ls) ls) (those-split p (a + 1) m n b (omega arith))
    ∙ cond-append (p a) a (those_from p (a + 1) m) (those_from p b n)

pub those-none : (p : ℕ → Bool) (a n : ℕ) → ((i : ℕ) → a ≤ i → i < a + n → p i ≡ false) → those_from p a n ≡ []
unfolding those_from
those-none p a zero h = refl
those-none p a (suc n) h =
    step p a n ∙ ap (λ b. cond b (a ∷ those_from p (a + 1) n) (those_from p (a + 1) n)) (h a (omega arith) (omega arith))
    ∙ those-none p (a + 1) n (λ i low high. h i (omega arith) (omega arith))

pub those-same : (p q : ℕ → Bool) (a n : ℕ) → ((i : ℕ) → a ≤ i → i < a + n → p i ≡ q i) → those_from p a n ≡ those_from q a n
unfolding those_from
those-same p q a zero h = refl
those-same p q a (suc n) h =
    step p a n ∙ ap (λ b. cond b (a ∷ those_from p (a + 1) n) (those_from p (a + 1) n)) (h a (omega arith) (omega arith))
    ∙ ap (λ ls. cond (q a) (a ∷ ls) ls) (those-same p q (a + 1) n (λ i low high. h i (omega arith) (omega arith)))
    ∙ sym (step q a n)

pub those-one : (p : ℕ → Bool) (a : ℕ) → p a ≡ true → those_from p a 1 ≡ a ∷ []
unfolding those_from
those-one p a h = ap (λ b. cond b (a ∷ []) []) h

cond-long : (b : Bool) (x : ℕ) (xs : List ℕ) → length (cond b (x ∷ xs) xs) ≤ suc (length xs)
cond-long true x xs = omega arith
cond-long false x xs = omega arith

pub length-those : (p : ℕ → Bool) (a n : ℕ) → length (those_from p a n) ≤ n
unfolding those_from
length-those p a zero = omega arith
length-those p a (suc n) =
    let long = cond-long (p a) a (those_from p (a + 1) n) in
    let rest = length-those p (a + 1) n in
    omega (arith, ap length (step p a n), long, rest)

-- none below b pass, and the next m of them are taken out
pub those-taken : (p q : ℕ → Bool) (a c b m : ℕ) → a ≤ b → b + m ≤ a + c
    → ((i : ℕ) → a ≤ i → i < b → p i ≡ false) → ((i : ℕ) → a ≤ i → i < b + m → q i ≡ false)
    → ((i : ℕ) → b + m ≤ i → i < a + c → q i ≡ p i)
    → those_from p a c ≡ those_from p b m ++ those_from q a c
those-taken p q a c b m low high none gone kept =
    let front = b - a in
    let rest = a + c - (b + m) in
    let whole : c ≡ front + (m + rest) = omega arith in
    let here : a + front ≡ b = omega arith in
    let there : b + m ≡ b + m = refl in
    let old : those_from p a c ≡ those_from p b m ++ those_from p (b + m) rest =
    ap (those_from p a) whole ∙ those-split p a front (m + rest) b here
    ∙ ap (λ ls. ls ++ those_from p b (m + rest)) (those-none p a front (λ i l h. none i l (omega arith)))
    ∙ those-split p b m rest (b + m) there in
    let new : those_from q a c ≡ those_from p (b + m) rest =
    ap (those_from q a) whole ∙ those-split q a front (m + rest) b here
    ∙ ap (λ ls. ls ++ those_from q b (m + rest)) (those-none q a front (λ i l h. gone i l (omega arith)))
    ∙ those-split q b m rest (b + m) there
    ∙ ap (λ ls. ls ++ those_from q (b + m) rest) (those-none q b m (λ i l h. gone i (omega arith) h))
    ∙ those-same q p (b + m) rest (λ i l h. kept i l (omega arith)) in
    old ∙ ap (λ ls. those_from p b m ++ ls) (sym new)

-- what a step of a loop leaves: the items, and those that are still in
pub taken-next : (p q : ℕ → Bool) (a c b m : ℕ) (items more start : List ℕ)
    → those_from p a c ≡ those_from p b m ++ those_from q a c → more ≡ items ++ those_from p b m
    → items ++ those_from p a c ≡ start → more ++ those_from q a c ≡ start
taken-next p q a c b m items more start parts is so_far =
    ap (λ ls. ls ++ those_from q a c) is ∙ append_assoc items (those_from p b m) (those_from q a c)
    ∙ ap (λ ls. items ++ ls) (sym parts) ∙ so_far

-- no more pass in a part of a range than in all of it
pub those-part : (p : ℕ → Bool) (a c b m : ℕ) → a ≤ b → b + m ≤ a + c → length (those_from p b m) ≤ length (those_from p a c)
those-part p a c b m low high =
    let front = b - a in
    let rest = a + c - (b + m) in
    let whole : c ≡ front + (m + rest) = omega arith in
    let here : a + front ≡ b = omega arith in
    let there : b + m ≡ b + m = refl in
    let parts : those_from p a c ≡ those_from p a front ++ (those_from p b m ++ those_from p (b + m) rest) =
    ap (those_from p a) whole ∙ those-split p a front (m + rest) b here
    ∙ ap (λ ls. those_from p a front ++ ls) (those-split p b m rest (b + m) there) in
    omega (arith, ap length parts, length-append (those_from p a front) (those_from p b m ++ those_from p (b + m) rest), length-append (those_from p b m) (those_from p (b + m) rest))
