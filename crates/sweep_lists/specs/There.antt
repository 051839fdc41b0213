-- Places of a list, of which some are empty.
use Rattle.std.specs.Prelude.{◌≡◌, ℕ, ◌==◌, ◌+◌, ◌<◌, ◌≤◌, Bool, false, List, [], ◌∷◌, length, Option, None, Some, option_map, slice_index_or}
use Rattle.std.specs.List.{count_by, position}
use Rattle.std.specs.Option.{IfSome}
use Rattle.sweep_laws.specs.State.{LifeState}
use Rattle.sweep_lists.specs.declared.life.Life.{Life}
use Rattle.sweep_lists.specs.Views.{life_view, LifeRoom}

-- what is there, in order
abbrev pub there : {A : Type 0} → List (Option A) → List A
there [] = []
there (None ∷ places) = there places
there (Some x ∷ places) = x ∷ there places

-- whether something is there that passes a test
abbrev pub passes : {A : Type 0} → (A → Bool) → Option A → Bool
passes test None = false
passes test (Some x) = test x

-- what a place shows
abbrev pub place_view : Option Life → Option LifeState
place_view place = option_map life_view place

-- whether a life is there that begins at a page
abbrev pub begins : ℕ → Option LifeState → Bool
begins page place = passes (λ (life : LifeState). life.page == page) place

-- no two lives that are there begin at one page
abbrev pub AreApart : List (Option LifeState) → Type 0
AreApart places = (page : ℕ) → count_by (begins page) places ≤ 1

-- a life that is there has room for its objects
abbrev pub PlaceRoom : Option Life → Type 0
PlaceRoom place = IfSome place LifeRoom

-- for each page below its length the table tells the first place at which a life is that begins there
abbrev pub TellsPlaces : List (Option ℕ) → List (Option LifeState) → Type 0
TellsPlaces starts places = (p : ℕ) → p < length starts → slice_index_or starts p None ≡ position (begins p) places

-- what a table tells of a page where it told `old`, and a life begins there at the place `found` among those from `start` on
abbrev pub told : ℕ → Option ℕ → Option ℕ → Option ℕ
told start old None = old
told start old (Some j) = Some (start + j)

-- what a table tells of a page where it told `old`, and a life that begins there comes to the place `k` behind all others
abbrev pub first_told : Option ℕ → ℕ → Option ℕ
first_told None k = Some k
first_told (Some i) k = Some i
