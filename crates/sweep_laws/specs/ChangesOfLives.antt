-- What a move changes of one life, and of the lives of a list.
use Rattle.std.specs.Prelude.{ℕ, ◌==◌, nat_le, if◌then◌else◌, List, [], ◌∷◌, ◌++◌}
use Rattle.sweep_laws.specs.State.{LifeState}
use Rattle.sweep_laws.specs.Lists.{change_first, drop_first}

-- the first life of the list that begins at the page changes
abbrev pub change_life : ℕ → (LifeState → LifeState) → List LifeState → List LifeState
change_life page f lives = change_first (λ life. life.page == page) f lives

-- the first life of the list that begins at the page leaves it
abbrev pub drop_life : ℕ → List LifeState → List LifeState
drop_life page lives = drop_first (λ life. life.page == page) lives

-- a life that a Take makes
abbrev pub new_life : ℕ → ℕ → ℕ → ℕ → LifeState
new_life page pages count class =
    record { page = page; pages = pages; count = count; class = class; allocated = []; kept = [] }

-- the sweep: what was marked stays allocated
abbrev pub keep_marked : LifeState → LifeState
keep_marked life = record life { allocated = life.kept }

-- one index more is allocated
abbrev pub allocate_index : ℕ → LifeState → LifeState
allocate_index i life = record life { allocated = life.allocated ++ i ∷ [] }

-- the indices that the marks name in the life of a page
abbrev pub marks_at : ℕ → List (ℕ × ℕ) → List ℕ
marks_at page [] = []
marks_at page (mark ∷ marks) = if mark.0 == page then mark.1 ∷ marks_at page marks else marks_at page marks

-- what the marks name in the life is to be kept
abbrev pub mark_life : List (ℕ × ℕ) → LifeState → LifeState
mark_life marks life = record life { kept = marks_at life.page marks }

-- what a Take leaves prepared: it uses up a prepared life that has room enough
abbrev pub left_prepared : ℕ → ℕ → ℕ
left_prepared prepared count = if nat_le count prepared then 0 else prepared
