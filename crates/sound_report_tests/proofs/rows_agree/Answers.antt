use Rattle.sound_report_tests.proofs.Rows.{sounds_agree, marks_agree, answers_agree, journals_agree, misses_agree, places_agree, aparts_agree, fillings_agree, sweeps_agree, gives_agree, totals_agree, profiles_agree, lasts_agree, eaches_agree, uses_agree, cached_agree, cached_uses_agree}
use Rattle.sound_report_tests.proofs.rows_agree.Goals as goal

pub returns : goal.returns
returns c = record {
  sound = sounds_agree;
  marked = marks_agree;
  answers = answers_agree;
  journals = journals_agree;
  cached = cached_agree;
  misses = misses_agree;
  places = places_agree;
  apart = aparts_agree;
  filling = fillings_agree;
  sweeps = sweeps_agree;
  gives = gives_agree;
  totals = totals_agree;
  profiles = profiles_agree;
  lasts = lasts_agree;
  eaches = eaches_agree;
  used = uses_agree;
  cached_used = cached_uses_agree;
}
