use Rattle.sound_run.proofs.OfObjects.{marks-of-objects}
use Rattle.sound_run.proofs.a_mark_end_marks_by_objects.Goals as goal

pub returns : goal.returns
returns c = marks-of-objects
