-- The numbers of a line that has short ones.
use Rattle.trace_reader.specs.declared.short.ShortAlloc.{ShortAlloc}
use Rattle.trace_reader.specs.declared.statement.AllocForm.{AllocForm}

-- the same numbers as a form
abbrev pub short_form : ShortAlloc → AllocForm
short_form s = record { proc = s.proc; size = s.size; scan = s.scan; stack = s.stack }
