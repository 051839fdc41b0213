use Rattle.std.proofs.Common.{◌≡◌, subst}
use Rattle.std.specs.Io.KnownBytes.{Appends}
use Rattle.edge_io.specs.Front.{AppendsFront}
use Rattle.edge_io.specs.Text.{text}
use Rattle.trace_reader.specs.Spelling.{lines_of}
use Rattle.trace_reader.specs.declared.trace.Trace.{Trace}
use Rattle.trace_gen.specs.Made.{made_trace}
use Rattle.commands.specs.Asks.{made_text}
use Rattle.commands.proofs.made.write_made.Goals as goal

pub returns-in-Ok-print_trace-clause-ok : goal.returns-in-Ok-print_trace-clause-ok
unfolding made_text
returns-in-Ok-print_trace-clause-ok g c =
    let is : c.in-Ok.trace ≡ made_trace c.args.wanted.seed c.args.wanted.objects = c.in-Ok.ensures in
    subst (λ (t : Trace). Appends (g.K.Sink.held c.args.out.now) (g.K.Sink.held c.print_trace.new.out) (text (lines_of t))) is c.in-Ok-print_trace.ensures.ok

pub returns-clause-front : goal.returns-clause-front
unfolding made_text
returns-clause-front g c = λ failed.
    let is : c.in-Ok.trace ≡ made_trace c.args.wanted.seed c.args.wanted.objects = c.in-Ok.ensures in
    subst (λ (t : Trace). AppendsFront (g.K.Sink.held c.args.out.now) (g.K.Sink.held c.print_trace.new.out) (text (lines_of t))) is c.print_trace.ensures.front
