-- What a queue tells of its orders.
use Rattle.std.specs.Prelude.{ℕ, ◌≡◌, ◌≤◌, ◌==◌, Bool, false, ◌&&◌, ◌||◌, nat_lt, List, None, Some}
use Rattle.std.specs.declared.option.Option.{Option}
use Rattle.sg_slots.specs.Slots.{entry_at}
use Rattle.sg_slots.specs.declared.standing.Standing.{Standing}

-- one number decides, and where it is the same a further test
abbrev pub by : ℕ → ℕ → Bool → Bool
by a b further = nat_lt a b || ((a == b) && further)

-- whether the entry of one id goes before that of another, by where they stand
abbrev pub stands_before : Standing → ℕ → Standing → ℕ → Bool
stands_before s m t n = by s.first t.first (by s.second t.second (nat_lt m n))

module _ {E : Type 0} where
  -- the entry of an id stands in an order, and no other goes before it
  pub record GoesFirst (order : E → Option Standing) (entries : List (ℕ × E)) (id : ℕ) : Type 0 where
    pub entry : E
    pub there : entry_at entries id ≡ Some entry
    pub standing : Standing
    pub stands : order entry ≡ Some standing
    pub first : (n : ℕ) (e : E) (s : Standing) → entry_at entries n ≡ Some e → order e ≡ Some s → stands_before s n standing id ≡ false

  -- the id of the entry that goes before all others in an order, none where none stands in it
  abbrev pub IsFirst : (E → Option Standing) → List (ℕ × E) → Option ℕ → Type 0
  IsFirst order entries None = (n : ℕ) (e : E) → entry_at entries n ≡ Some e → order e ≡ None
  IsFirst order entries (Some id) = GoesFirst order entries id

  -- a number is the first of an entry's standing in an order, and no entry has a greater one
  pub record HasGreatest (order : E → Standing) (entries : List (ℕ × E)) (number : ℕ) : Type 0 where
    pub id : ℕ
    pub entry : E
    pub there : entry_at entries id ≡ Some entry
    pub is : (order entry).first ≡ number
    pub greatest : (n : ℕ) (e : E) → entry_at entries n ≡ Some e → (order e).first ≤ number

  -- the greatest first number in an order, none where there is no entry
  abbrev pub IsGreatest : (E → Standing) → List (ℕ × E) → Option ℕ → Type 0
  IsGreatest order entries None = (n : ℕ) (e : E) → entry_at entries n ≡ Some e → ⊥
  IsGreatest order entries (Some number) = HasGreatest order entries number
