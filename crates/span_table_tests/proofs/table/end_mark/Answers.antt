use Rattle.span_table_tests.proofs.Driving.{own_of}
use Rattle.span_table_tests.proofs.table.end_mark.Goals as goal

pub returns : goal.returns
returns g c = let i = c.in_ok-turn.ensures.turned.idle in
    record { ready = record { works = i.works; number = i.number; unclaimed = (own_of c.args.shared.now c.turn-2.new.w i).claimed } }
