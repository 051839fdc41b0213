-- What each worker has, as the driver knows it.
use Rattle.std.specs.Prelude.{◌≡◌, ℕ, Bool, true, false, [], length, slice_index_or, Some, None}
use Rattle.page_cache.specs.Cache.{only}
use Rattle.span_laws.specs.declared.view.Part.{Part}
use Rattle.span_laws.specs.Views.{Seen, no_part, parts_of}
use Rattle.span_laws.specs.Handed.{handed, with_cache}

-- What worker i has, the own part of w among all.
abbrev pub part_at : Seen → ℕ → Part
part_at w i = slice_index_or (parts_of w.number w.view) i no_part

-- Both are of one table and have the same workers out, and agree on all that is no worker's own.
pub record IsSameRun (old new : Seen) : Type 0 where
  pub away : new.away ≡ old.away
  pub table : new.table ≡ old.table
  pub caching : new.caching ≡ old.caching
  pub parts : length new.view.parts ≡ length old.view.parts
  pub region : new.view.region ≡ old.view.region
  pub goal : new.view.goal ≡ old.view.goal
  pub procs : new.view.procs ≡ old.view.procs
  pub generation : new.view.generation ≡ old.view.generation
  pub marks : new.view.marks ≡ old.view.marks
  pub before : new.view.before ≡ old.view.before
  pub carried : new.view.carried ≡ old.view.carried

-- The part with which worker m goes out: with an empty page cache, or with none.
abbrev pub own_out : Bool → ℕ → Part → Part
own_out true m h = with_cache (Some (only m None)) h
own_out false m h = with_cache None h

-- The worker that goes out as number m, with a page cache or without one.
abbrev pub goes_out : Bool → ℕ → Seen → Seen
goes_out caching m w = record { table = w.table; number = m; away = []; caching = caching; journal = None; view = record (handed 69 m w.view) { own = own_out caching m (handed 69 m w.view).own } }
