use Rattle.std.proofs.Common.{rules}
use Rattle.edge_io.proofs.Sent.{Sends-trans}
use Rattle.edge_io.proofs.output.Output.flush.Goals as goal

pub loop-self-preserved : goal.loop-self-preserved
loop-self-preserved g c = record {
  same_sink = search rules;
  sends = Sends-trans _ _ _ _ _ _ c.loop-self.invariant.sends c.send.ensures.sends;
  faults = search rules;
}

pub returns-in_err-send-clause-sends : goal.returns-in_err-send-clause-sends
returns-in_err-send-clause-sends g c = Sends-trans _ _ _ _ _ _ c.loop-self.invariant.sends c.send.ensures.sends
