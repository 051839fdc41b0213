use Rattle.sweep_lists.proofs.hand.CoreHand.fill_cell.Goals as goal

pub returns-clause-room : goal.returns-clause-room
returns-clause-room c = λ pages n had.
    let h = c.let_go.ensures.room pages n had in
    record {
      sweeping = h.sweeping;
      held = h.held;
      cached = h.cached;
      popped = h.popped;
      swept = h.swept;
      pulled = h.pulled;
      sweeping_table = h.sweeping_table;
      held_table = h.held_table;
      cached_table = h.cached_table;
      popped_table = h.popped_table;
      pulled_table = h.pulled_table;
    }
