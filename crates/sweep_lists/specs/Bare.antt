-- Parts of a core with nothing in them.
use Rattle.std.specs.Prelude.{ℕ, [], None}
use Rattle.sweep_lists.specs.declared.hand.CoreHand.{CoreHand}
use Rattle.sweep_lists.specs.declared.set.CoreSet.{CoreSet}

-- a hand with nothing in it and no room, with tables of so many pages
abbrev pub bare_hand : ℕ → CoreHand
bare_hand pages = record {
  sweeping = record { items = []; space = 0; reach = pages };
  held = record { items = []; space = 0; reach = pages };
  cached = record { items = []; space = 0; reach = pages };
  popped = record { items = []; space = 0; reach = pages };
  claimed = None;
  swept = record { items = []; space = 0 };
  pulled = record { items = []; space = 0; reach = pages };
}

-- a set with nothing in it and no room
abbrev pub bare_set : CoreSet
bare_set = record { head = 0; tail = 0; cells = record { items = []; space = 0 } }
