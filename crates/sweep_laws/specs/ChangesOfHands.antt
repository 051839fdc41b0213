-- What a move changes of one hand: a page comes to one of its lists or leaves it, a cell is claimed or filled.
use Rattle.std.specs.Prelude.{ℕ, List, [], ◌∷◌, ◌++◌, Some, None}
use Rattle.sweep_laws.specs.State.{HandState}
use Rattle.sweep_laws.specs.Lists.{erase, erase_run}

-- the hand holds one page more
abbrev pub hold : ℕ → HandState → HandState
hold page h = record h { held = h.held ++ page ∷ [] }

-- the hand holds the page no more
abbrev pub let_go : ℕ → HandState → HandState
let_go page h = record h { held = erase page h.held }

-- the hand begins to sweep the page, and uses up an entry that it popped for it
abbrev pub start_sweep : ℕ → HandState → HandState
start_sweep page h = record h { sweeping = h.sweeping ++ page ∷ []; popped = erase page h.popped }

-- the hand ends the sweep of the page: it holds it, and tells it among those swept since the last mark end
abbrev pub end_sweep : ℕ → HandState → HandState
end_sweep page h = record h { sweeping = erase page h.sweeping; held = h.held ++ page ∷ []; swept = h.swept ++ page ∷ [] }

-- the hand caches a page that it held
abbrev pub put_in_cache : ℕ → HandState → HandState
put_in_cache page h = record h { held = erase page h.held; cached = h.cached ++ page ∷ [] }

-- the hand holds a page that it had cached
abbrev pub take_from_cache : ℕ → HandState → HandState
take_from_cache page h = record h { cached = erase page h.cached; held = h.held ++ page ∷ [] }

-- the hand begins to sweep a page that it had cached
abbrev pub sweep_from_cache : ℕ → HandState → HandState
sweep_from_cache page h = record h { cached = erase page h.cached; sweeping = h.sweeping ++ page ∷ [] }

-- the hand claims a cell for a page
abbrev pub claim_cell : ℕ → ℕ → ℕ → HandState → HandState
claim_cell s i page h = record h { claimed = Some (record { set = s; index = i; page = page }) }

-- the claim of the hand is over, and it holds the page no more
abbrev pub fill_cell : ℕ → HandState → HandState
fill_cell page h = record h { held = erase page h.held; claimed = None }

-- the hand has one popped entry more
abbrev pub pop_entry : ℕ → HandState → HandState
pop_entry page h = record h { popped = h.popped ++ page ∷ [] }

-- the hand forgets an entry that it popped
abbrev pub drop_entry : ℕ → HandState → HandState
drop_entry page h = record h { popped = erase page h.popped }

-- the hand has pulled pages
abbrev pub pull_pages : List ℕ → HandState → HandState
pull_pages pages h = record h { pulled = pages }

-- the hand holds a span of pages that it had pulled
abbrev pub cut_span : ℕ → ℕ → HandState → HandState
cut_span page pages h = record h { held = h.held ++ page ∷ []; pulled = erase_run page pages h.pulled }

-- the hand has pulled nothing
abbrev pub drop_pulled : HandState → HandState
drop_pulled h = record h { pulled = [] }

-- a mark end begins a new cycle, in which the hand has swept nothing
abbrev pub forget_swept : HandState → HandState
forget_swept h = record h { swept = [] }
