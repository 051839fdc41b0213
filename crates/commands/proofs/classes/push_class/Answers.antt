use Rattle.std.proofs.Common.{decimal}
use Rattle.size_classes.specs.Classes.{objects_of, pages_of, slot_of}
use Rattle.commands.proofs.ClassLines.{line_form}
use Rattle.commands.proofs.classes.push_class.Goals as goal

pub returns-clause-text : goal.returns-clause-text
returns-clause-text c =
    let class = c.args.class in
    rw (
      c.push-5.ensures,
      c.push_short-4.ensures.text,
      c.push-4.ensures,
      c.push_short-3.ensures.text,
      c.push-3.ensures,
      c.push_short-2.ensures.text,
      c.push-2.ensures,
      c.push_short.ensures.text,
      c.push.ensures,
      c.requires.empty,
      c.from.ensures,
      c.slot_size.ensures.size,
      c.span_pages.ensures.pages,
      c.span_objects.ensures.objects,
    ) (line_form (decimal class) (decimal (slot_of class)) (decimal (pages_of class)) (decimal (objects_of class)))
