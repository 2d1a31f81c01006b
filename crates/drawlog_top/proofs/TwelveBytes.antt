-- Times of twelve bytes.
use Rattle.std.proofs.Common.{◌≡◌, ℕ, ◌+◌, ◌/◌, ◌%◌, ◌<◌, true, cond, Some, [], ◌∷◌, refl, sym, ap, ◌∙◌, arith, length, get_or, nat_lt, decimal}
use Rattle.std.specs.List.{join_with_byte}
use Rattle.std.proofs.lemmas.Bool.Decides.{nat_tests}
use Rattle.quantity.specs.Bytes.{Bytes}
use Rattle.quantity.specs.Digits.{last_digits}
use Rattle.quantity.specs.Times.{hours_text, read_time, time_text}
use Rattle.quantity.specs.TimeBounds.{IsTime}
use Rattle.quantity.proofs.Written.{time_read}
use Rattle.drawlog_top.specs.UsualTimes.{IsMadeOf, IsMarked}

pub time_as_read : (text : Bytes) (t : ℕ) → IsTime t → text ≡ time_text t → Some t ≡ read_time text
time_as_read text t le e = sym (ap read_time e ∙ time_read t le)

-- ---- a text of twelve bytes

spelled : (text : Bytes) → length text ≡ 12 → text
    ≡ get_or text 0 0 ∷ get_or text 1 0 ∷ get_or text 2 0 ∷ get_or text 3 0 ∷ get_or text 4 0 ∷ get_or text 5 0 ∷ get_or text 6 0 ∷ get_or text 7 0 ∷ get_or text 8 0 ∷ get_or text 9 0 ∷ get_or text 10 0 ∷ get_or text 11 0 ∷ []
spelled [] h = absurd (omega arith)
spelled (a ∷ []) h = absurd (omega arith)
spelled (a ∷ b ∷ []) h = absurd (omega arith)
spelled (a ∷ b ∷ c ∷ []) h = absurd (omega arith)
spelled (a ∷ b ∷ c ∷ d ∷ []) h = absurd (omega arith)
spelled (a ∷ b ∷ c ∷ d ∷ e ∷ []) h = absurd (omega arith)
spelled (a ∷ b ∷ c ∷ d ∷ e ∷ f ∷ []) h = absurd (omega arith)
spelled (a ∷ b ∷ c ∷ d ∷ e ∷ f ∷ g ∷ []) h = absurd (omega arith)
spelled (a ∷ b ∷ c ∷ d ∷ e ∷ f ∷ g ∷ i ∷ []) h = absurd (omega arith)
spelled (a ∷ b ∷ c ∷ d ∷ e ∷ f ∷ g ∷ i ∷ j ∷ []) h = absurd (omega arith)
spelled (a ∷ b ∷ c ∷ d ∷ e ∷ f ∷ g ∷ i ∷ j ∷ k ∷ []) h = absurd (omega arith)
spelled (a ∷ b ∷ c ∷ d ∷ e ∷ f ∷ g ∷ i ∷ j ∷ k ∷ l ∷ []) h = absurd (omega arith)
spelled (a ∷ b ∷ c ∷ d ∷ e ∷ f ∷ g ∷ i ∷ j ∷ k ∷ l ∷ m ∷ []) h = refl
spelled (a ∷ b ∷ c ∷ d ∷ e ∷ f ∷ g ∷ i ∷ j ∷ k ∷ l ∷ m ∷ n ∷ more) h = absurd (omega arith)

-- ---- the text of a time below 100 hours

-- the digits of a number
abbrev pub IsTwo : ℕ → ℕ → ℕ → Type 0
IsTwo n tens ones = (tens ≡ 48 + n / 10 % 10) × (ones ≡ 48 + n % 10)

abbrev pub IsThree : ℕ → ℕ → ℕ → ℕ → Type 0
IsThree n hundreds tens ones = (hundreds ≡ 48 + n / 10 / 10 % 10) × (tens ≡ 48 + n / 10 % 10) × (ones ≡ 48 + n % 10)

two : (n a b : ℕ) → IsTwo n a b → last_digits 2 n ≡ a ∷ b ∷ []
two n a b h = sym (ap (λ (x : ℕ). x ∷ b ∷ []) h.0 ∙ ap (λ (x : ℕ). (48 + n / 10 % 10) ∷ x ∷ []) h.1)

three : (n a b c : ℕ) → IsThree n a b c → last_digits 3 n ≡ a ∷ b ∷ c ∷ []
three n a b c h =
    sym (ap (λ (x : ℕ). x ∷ b ∷ c ∷ []) h.0 ∙ ap (λ (x : ℕ). (48 + n / 10 / 10 % 10) ∷ x ∷ c ∷ []) h.1
    ∙ ap (λ (x : ℕ). (48 + n / 10 / 10 % 10) ∷ (48 + n / 10 % 10) ∷ x ∷ []) h.2)

below_hundred : (n : ℕ) → n < 100 → hours_text n ≡ last_digits 2 n
below_hundred n lt = let e : nat_lt n 100 ≡ true = grind (arith, nat_tests) in ap (λ b. cond b (last_digits 2 n) (decimal n)) e

abbrev joined : Bytes → Bytes → Bytes → Bytes → Bytes
joined h m s ms = join_with_byte 58 (h ∷ m ∷ s ∷ ms ∷ [])

made_text : (t h m s ms : ℕ) → IsMadeOf t h m s ms → h < 100 → time_text t ≡ joined (last_digits 2 h) (last_digits 2 m) (last_digits 2 s) (last_digits 3 ms)
made_text t h m s ms is lt =
    ap (λ x. joined (hours_text x) (last_digits 2 (t / 60000 % 60)) (last_digits 2 (t / 1000 % 60)) (last_digits 3 (t % 1000))) is.hours_are
    ∙ ap (λ x. joined x (last_digits 2 (t / 60000 % 60)) (last_digits 2 (t / 1000 % 60)) (last_digits 3 (t % 1000))) (below_hundred h lt)
    ∙ ap (λ x. joined (last_digits 2 h) (last_digits 2 x) (last_digits 2 (t / 1000 % 60)) (last_digits 3 (t % 1000))) is.minutes_are
    ∙ ap (λ x. joined (last_digits 2 h) (last_digits 2 m) (last_digits 2 x) (last_digits 3 (t % 1000))) is.seconds_are
    ∙ ap (λ x. joined (last_digits 2 h) (last_digits 2 m) (last_digits 2 s) (last_digits 3 x)) is.rest_is

marked : (text : Bytes) → IsMarked text → text
    ≡ joined (get_or text 0 0 ∷ get_or text 1 0 ∷ []) (get_or text 3 0 ∷ get_or text 4 0 ∷ []) (get_or text 6 0 ∷ get_or text 7 0 ∷ []) (get_or text 9 0 ∷ get_or text 10 0 ∷ get_or text 11 0 ∷ [])
marked text is =
    spelled text is.long
    ∙ ap (λ x. get_or text 0 0 ∷ get_or text 1 0 ∷ x ∷ get_or text 3 0 ∷ get_or text 4 0 ∷ get_or text 5 0 ∷ get_or text 6 0 ∷ get_or text 7 0 ∷ get_or text 8 0 ∷ get_or text 9 0 ∷ get_or text 10 0 ∷ get_or text 11 0 ∷ []) is.hours_end
    ∙ ap (λ x. get_or text 0 0 ∷ get_or text 1 0 ∷ 58 ∷ get_or text 3 0 ∷ get_or text 4 0 ∷ x ∷ get_or text 6 0 ∷ get_or text 7 0 ∷ get_or text 8 0 ∷ get_or text 9 0 ∷ get_or text 10 0 ∷ get_or text 11 0 ∷ []) is.minutes_end
    ∙ ap (λ x. get_or text 0 0 ∷ get_or text 1 0 ∷ 58 ∷ get_or text 3 0 ∷ get_or text 4 0 ∷ 58 ∷ get_or text 6 0 ∷ get_or text 7 0 ∷ x ∷ get_or text 9 0 ∷ get_or text 10 0 ∷ get_or text 11 0 ∷ []) is.seconds_end

pub twelve_are : (text : Bytes) (t h m s ms : ℕ) → IsMarked text → IsMadeOf t h m s ms → h < 100
    → IsTwo h (get_or text 0 0) (get_or text 1 0) → IsTwo m (get_or text 3 0) (get_or text 4 0) → IsTwo s (get_or text 6 0) (get_or text 7 0)
    → IsThree ms (get_or text 9 0) (get_or text 10 0) (get_or text 11 0) → text ≡ time_text t
twelve_are text t h m s ms mark is lt a b c d =
    marked text mark
    ∙ sym (made_text t h m s ms is lt
    ∙ ap (λ x. joined x (last_digits 2 m) (last_digits 2 s) (last_digits 3 ms)) (two h _ _ a)
    ∙ ap (λ x. joined (get_or text 0 0 ∷ get_or text 1 0 ∷ []) x (last_digits 2 s) (last_digits 3 ms)) (two m _ _ b)
    ∙ ap (λ x. joined (get_or text 0 0 ∷ get_or text 1 0 ∷ []) (get_or text 3 0 ∷ get_or text 4 0 ∷ []) x (last_digits 3 ms)) (two s _ _ c)
    ∙ ap (λ x. joined (get_or text 0 0 ∷ get_or text 1 0 ∷ []) (get_or text 3 0 ∷ get_or text 4 0 ∷ []) (get_or text 6 0 ∷ get_or text 7 0 ∷ []) x) (three ms _ _ _ d))
