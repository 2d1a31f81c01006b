-- Private: which stretch each leaf is in, by the first leaf of each stretch.
use Rattle.std.specs.Prelude.{◌≡◌, ℕ, zero, suc, ◌+◌, ◌-◌, ◌<◌, ◌≤◌, ⊤, Bool, true, false, nat_le, List, [], ◌∷◌, ◌++◌, length}

-- the number of the stretch that each leaf is in, and how many stretches there are
pub record Stretched : Type 0 where
  pub numbers : List ℕ
  pub many : ℕ

abbrev pub no_stretch : Stretched
no_stretch = record { numbers = []; many = 0 }

-- a further leaf is in the last stretch
abbrev pub with_leaf : Stretched → Stretched
with_leaf s = record { numbers = s.numbers ++ (s.many - 1) ∷ []; many = s.many }

-- a further leaf begins a stretch
abbrev pub with_stretch : Stretched → Stretched
with_stretch s = record { numbers = s.numbers ++ s.many ∷ []; many = s.many + 1 }

-- ---- by the first leaves

-- one more, if so
abbrev pub one_more : Bool → ℕ → ℕ
one_more true n = suc n
one_more false n = 0

-- how many stretches have begun with a leaf
abbrev pub begun_at : List ℕ → ℕ → ℕ
begun_at [] leaf = 0
begun_at (s ∷ starts) leaf = one_more (nat_le s leaf) (begun_at starts leaf)

-- the number of its stretch
abbrev pub number_at : List ℕ → ℕ → ℕ
number_at starts leaf = begun_at starts leaf - 1

-- the numbers of so many leaves
abbrev pub numbers_of : List ℕ → ℕ → List ℕ
numbers_of starts zero = []
numbers_of starts (suc n) = numbers_of starts n ++ number_at starts n ∷ []

-- none is below this one
abbrev pub AreFrom : ℕ → List ℕ → Type 0
AreFrom s [] = ⊤
AreFrom s (t ∷ starts) = (s ≤ t) × AreFrom s starts

-- none is below one before it
abbrev pub Rising : List ℕ → Type 0
Rising [] = ⊤
Rising (s ∷ starts) = AreFrom s starts × Rising starts

-- none is above this one
abbrev pub AreUpTo : ℕ → List ℕ → Type 0
AreUpTo n [] = ⊤
AreUpTo n (s ∷ starts) = (s ≤ n) × AreUpTo n starts

-- the first leaves of stretches, the end of the first one or less, and how many leaves there are
pub record AreStretches (starts : List ℕ) (near leaves : ℕ) : Type 0 where
  pub rising : Rising starts
  pub below : AreUpTo leaves starts
  pub some : 0 < leaves → 0 < length starts
  pub near_end : near ≤ leaves
  pub near_first : (leaf : ℕ) → leaf < near → number_at starts leaf ≡ 0
