-- A worker settles its own block behind the last event of a processor.
use Rattle.std.proofs.Common.{◌≡◌, ℕ, List, [], ◌∷◌, ◌++◌, Option, Some, None, refl, sym, ◌∙◌, ap, arith, inl, inr, ◌⊎◌, subst}
use Rattle.std.specs.Prelude.{option_map}
use Rattle.std.proofs.lemmas.List.{append_assoc, append-nil}
use Rattle.page_cache.specs.declared.block.Block.{Block}
use Rattle.page_cache.specs.Cache.{Cache as PageCache}
use Rattle.trace_reader.specs.declared.trace.Event.{Event}
use Rattle.cycle_history.specs.declared.Answer.{Answer}
use Rattle.worker_log.specs.declared.Entry.{Entry}
use Rattle.worker_log.specs.declared.Entry.TheVariants.{Settled}
use Rattle.span_laws.specs.Asks.{IsIdle}
use Rattle.span_laws.specs.CacheAnswers.{IsEmptyCache, SettlesBlock, block_of}
use Rattle.span_laws.specs.OwnSteps.{after_said, told, with_block}
use Rattle.span_laws.specs.Views.{Seen, acts}
use Rattle.span_laws.specs.declared.said.Said.TheVariants.{Settles}
use Rattle.span_laws.specs.declared.view.Part.{Part}
use Rattle.span_set.specs.declared.hand.Hand.{Hand}
use Rattle.proc_cache.specs.Cache.{Cache}
use Rattle.heap_run.specs.Firsts.{FlushesFor}
use Rattle.heap_run.specs.Turns.{HasActed, IsCaching, SaysAnswers, SaysNone}
use Rattle.heap_run.proofs.Acted.{acted-then, answers-then, none-answers}

-- ---- the block

-- It settled a block, or nothing changed.
abbrev HasSettled : Seen → Seen → Type 0
HasSettled old new = (new ≡ old) ⊎ ((line : ℕ) × (new ≡ after_said (Settles line) old))

has-settled : (old new : Seen) (block : Option Block) → SettlesBlock old new block → HasSettled old new
has-settled old new None is = inl is
has-settled old new (Some block) is = inr (is.0, is.1)

-- a cache that tells how many pages it has left is there
pub has-cache : (cache : Option PageCache) (f : PageCache → ℕ) (left : ℕ) → option_map f cache ≡ Some left → (k : PageCache) × (cache ≡ Some k)
has-cache None f left is = absurd (let e : None ≡ Some left = is in let no : ⊥ = cc in no)
has-cache (Some k) f left is = (k, refl)

-- its block is settled then
pub block-settles : (old new : Seen) (k : PageCache) → old.view.own.cache ≡ Some k → SettlesBlock old new (block_of old.view.own.cache) → IsEmptyCache new.view.own.cache
block-settles old new k is settles = go k.block refl (subst (λ (c : Option PageCache). SettlesBlock old new (block_of c)) is settles)
  where
    go : (block : Option Block) → k.block ≡ block → SettlesBlock old new k.block → IsEmptyCache new.view.own.cache
    go None none s = (k, ap (λ (w : Seen). w.view.own.cache) (subst (λ (b : Option Block). SettlesBlock old new b) none s) ∙ is, none)
    go (Some block) some s =
        let t = subst (λ (b : Option Block). SettlesBlock old new b) some s in
        (with_block None k, ap (λ (w : Seen). w.view.own.cache) t.1 ∙ ap (option_map (with_block None)) is, refl)

-- ---- what it leaves

pub settles-acted : (a b : Hand) → SettlesBlock a.worker b.worker (block_of a.worker.view.own.cache) → b.notes ≡ a.notes → IsIdle a.worker.view.own → HasActed SaysNone a b
settles-acted a b settles notes idle = go (has-settled a.worker b.worker (block_of a.worker.view.own.cache) settles)
  where
    go : HasSettled a.worker b.worker → HasActed SaysNone a b
    go (inl is) = record {
      said = [];
      did = (refl, refl);
      log = ap (λ (w : Seen). w.view.own.log) is;
      away = ap (λ (w : Seen). w.away) is;
      table = ap (λ (w : Seen). w.table) is;
      number = ap (λ (w : Seen). w.number) is;
      caching = ap (λ (w : Seen). w.caching) is;
      view = ap (λ (w : Seen). w.view) is ∙ ap (λ (w : Seen). acts a.worker.view w.view.own) (sym is);
      idle = subst (λ (w : Seen). IsIdle w.view.own) (sym is) idle;
      notes = ap (λ r. r.items) notes ∙ sym (append-nil a.notes.items);
    }
    go (inr at) = record {
      said = Settled at.0 ∷ [];
      did = (refl, refl);
      log = ap (λ (w : Seen). w.view.own.log) at.1;
      away = ap (λ (w : Seen). w.away) at.1;
      table = ap (λ (w : Seen). w.table) at.1;
      number = ap (λ (w : Seen). w.number) at.1;
      caching = ap (λ (w : Seen). w.caching) at.1;
      view = ap (λ (w : Seen). w.view) at.1 ∙ ap (λ (w : Seen). acts a.worker.view w.view.own) (sym at.1);
      idle = subst (λ (w : Seen). IsIdle w.view.own) (sym at.1) (record { sweeping = idle.sweeping; held = idle.held; popped = idle.popped; claimed = idle.claimed });
      notes = ap (λ r. r.items) notes ∙ sym (append-nil a.notes.items);
    }

-- the cached spans stay
pub settles-caching : (a b : Hand) → SettlesBlock a.worker b.worker (block_of a.worker.view.own.cache) → (g : ℕ) (c : Cache) → IsCaching g a.worker.view.own c → IsCaching g b.worker.view.own c
settles-caching a b settles g c are = go (has-settled a.worker b.worker (block_of a.worker.view.own.cache) settles)
  where
    go : HasSettled a.worker b.worker → IsCaching g b.worker.view.own c
    go (inl is) = subst (λ (w : Seen). IsCaching g w.view.own c) (sym is) are
    go (inr at) =
        let h : Part = told (Settles at.0) a.worker.view.own in
        let now : IsCaching g h c = record {
          serves = record {
            slots = λ j s on. (let one = are.serves.slots j s on in record { cached = one.cached; lent = one.lent; class = one.class; unpopped = (let u = one.unpopped in omega arith) });
            all = are.serves.all;
            once = are.serves.once;
            fresh = are.serves.fresh;
            early = are.serves.early;
          };
          used = λ p hc hf. (let u = are.used p hc hf in omega arith);
        } in
        subst (λ (w : Seen). IsCaching g w.view.own c) (sym at.1) now

-- ---- behind the last event

pub settled-then : (events : List Event) (answers : List Answer) (a b c : Hand) → HasActed (SaysAnswers events answers) a b → HasActed SaysNone b c → HasActed (SaysAnswers events answers) a c
settled-then events answers a b c ab bc =
    acted-then (SaysAnswers events answers) SaysNone (SaysAnswers events answers) a b c ab bc (λ first later told none. answers-then [] events [] answers later first (none-answers later none) told)

pub first-settled : (events : List Event) (c d : Cache) (old mid new : Hand) → FlushesFor events c d old mid → HasActed SaysNone mid new → FlushesFor events c d old new
first-settled events c d old mid new first settled e h some =
    let f = first e h some in
    record {
      flushed = f.flushed;
      flush = f.flush;
      rest = settled.said ++ f.rest;
      log = settled.log ∙ ap (λ (l : List Entry). settled.said ++ l) f.log ∙ sym (append_assoc settled.said f.rest (f.flush ++ old.worker.view.own.log));
      whole = f.whole;
    }
