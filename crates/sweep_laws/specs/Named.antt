-- How often hands, sets and lives name a page.
use Rattle.std.specs.Prelude.{ℕ, ◌+◌, ◌-◌, ◌==◌, ◌&&◌, nat_lt, nat_le, Bool, true, false, not, cond, List, [], ◌∷◌, map, Option, Some, None}
use Rattle.std.specs.List.{range_with_len}
use Rattle.sweep_laws.specs.declared.moves.Claimed.{Claimed}
use Rattle.sweep_laws.specs.Counts.{one_if, times, total, total_from}
use Rattle.sweep_laws.specs.State.{LifeState, SetState, HandState}
use Rattle.sweep_laws.specs.Reading.{cell_of, class_of_set, is_swept_set}

-- how often the hands' sweeping lists name a page
abbrev pub sweepers : ℕ → List HandState → ℕ
sweepers p hands = total (λ h. times p h.sweeping) hands

-- how often the hands' held lists name it
abbrev pub holders : ℕ → List HandState → ℕ
holders p hands = total (λ h. times p h.held) hands

-- how often the hands' cached lists name it
abbrev pub cachers : ℕ → List HandState → ℕ
cachers p hands = total (λ h. times p h.cached) hands

-- how often the hands' popped lists name it
abbrev pub poppers : ℕ → List HandState → ℕ
poppers p hands = total (λ h. times p h.popped) hands

-- how often the hands' swept lists name it
abbrev pub swept_by : ℕ → List HandState → ℕ
swept_by p hands = total (λ h. times p h.swept) hands

-- how often the hands' pulled lists name it
abbrev pub pullers : ℕ → List HandState → ℕ
pullers p hands = total (λ h. times p h.pulled) hands

-- whether a claim is of this index of this set
abbrev pub is_claim : ℕ → ℕ → Option Claimed → Bool
is_claim set index None = false
is_claim set index (Some d) = (d.set == set) && (d.index == index)

-- how many hands claim an index of a set
abbrev pub claimers : ℕ → ℕ → List HandState → ℕ
claimers set index hands = total (λ h. one_if (is_claim set index h.claimed)) hands

-- the unpopped cells: those from head up to tail
abbrev pub unpopped : SetState → List ℕ
unpopped s = map (cell_of s) (range_with_len s.head (s.tail - s.head))

-- n where the test holds, else 0
abbrev pub only : Bool → ℕ → ℕ
only true n = n
only false n = 0

-- how often a set's unpopped cells name a page
abbrev pub names_in : ℕ → SetState → ℕ
names_in p s = times (p + 1) (unpopped s)

-- how often the unpopped cells of the swept sets name a page
abbrev pub queued : ℕ → ℕ → List SetState → ℕ
queued g p sets = total_from (λ k s. only (is_swept_set g k) (names_in p s)) 0 sets

-- how often those of the unswept sets do
abbrev pub unswept : ℕ → ℕ → List SetState → ℕ
unswept g p sets = total_from (λ k s. only (not (is_swept_set g k)) (names_in p s)) 0 sets

-- a life covers its pages
abbrev pub is_covered : ℕ → LifeState → Bool
is_covered p l = nat_le l.page p && nat_lt p (l.page + l.pages)

-- how many lives cover a page
abbrev pub covers : ℕ → List LifeState → ℕ
covers p lives = total (λ l. one_if (is_covered p l)) lives

-- the first page of the life that covers a page
abbrev pub owner : ℕ → List LifeState → Option ℕ
owner p [] = None
owner p (l ∷ lives) = cond (is_covered p l) (Some l.page) (owner p lives)

-- whether a life begins at a page
abbrev pub begins : ℕ → List LifeState → Bool
begins p [] = false
begins p (l ∷ lives) = cond (l.page == p) true (begins p lives)

-- whether the life that begins at a page is of a span class
abbrev pub is_class : ℕ → ℕ → List LifeState → Bool
is_class p m [] = false
is_class p m (l ∷ lives) = cond (l.page == p) (l.class == m) (is_class p m lives)

-- how often the unpopped cells of the unswept sets of the page's own class name it
abbrev pub unswept_own : ℕ → ℕ → List LifeState → List SetState → ℕ
unswept_own g p lives sets = total_from (λ k s. only (is_class p (class_of_set k) lives) (only (not (is_swept_set g k)) (names_in p s))) 0 sets
