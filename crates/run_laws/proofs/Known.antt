-- Each move keeps which lives and blocks workers know, and as a cycle ends the lives that they know are those of the journal.
use Rattle.std.proofs.Common.{◌≡◌, ◌≢◌, ℕ, ◌+◌, ◌-◌, ◌⊎◌, inl, inr, Bool, eq-eqb, ne_eqb, List, [], ◌∷◌, ◌++◌, map, length, sym, refl, ap, ◌∙◌, subst}
use Rattle.std.specs.Prelude.{Option, Some, None, option_map}
use Rattle.std.proofs.lemmas.Bool.{cases_eq}
use Rattle.std.proofs.lemmas.List.{append_assoc}
use Rattle.page_bitmap.specs.declared.line.Line.{Line}
use Rattle.page_bitmap.specs.declared.line.Line.TheVariants.{Take as TakeLine, Give as GiveLine, Pull as PullLine, Drop as DropLine}
use Rattle.page_alloc.specs.Lists.{In}
use Rattle.page_alloc.specs.Lives.{Life, life_of as new_life, others, open_lives}
use Rattle.page_alloc.specs.Blocks.{HasBlock, OpenBlock, block_of, open_blocks}
use Rattle.page_alloc.proofs.Lives.{from_others, to_others}
use Rattle.sweep_laws.specs.declared.moves.Move.{Move}
use Rattle.sweep_laws.specs.declared.moves.Move.TheVariants.{Lock, Unlock, Take, Give, Acquire, Release, Cache, Allocate, Uncache, StaleUncache, Claim, Fill, PopSwept, PopUnswept, DropPopped, Pull, Cut, Drop, Next}
use Rattle.sweep_laws.specs.Reading.{life_of}
use Rattle.sweep_laws.specs.State.{CoreState}
use Rattle.sweep_laws.proofs.NeedsMet.{some_none}
use Rattle.worker_log.specs.declared.Entry.{Entry}
use Rattle.worker_log.specs.declared.Entry.TheVariants.{Allocated, Swept, Took, Gave, Pulled, Cut as CutEntry, Settled}
use Rattle.run_laws.specs.CycleSoFar.{CycleSoFar, past_after}
use Rattle.run_laws.specs.Steps.{after_took, after_gave, after_line}
use Rattle.run_laws.specs.ShowsCycle.{after_mark_end, first_cycle}
use Rattle.run_laws.specs.Blocks.{CutOut, OutBlock, cut_line, cut_out, cuts_in, cuts_of, cuttings, out_of, pages_cut, with_cut}
use Rattle.run_laws.specs.ShowsBlocks.{BlocksGoOn, after_pulled, after_cut_out, after_settled}
use Rattle.run_laws.specs.Known.{IsKnownAs, IsOpenLife, KnowsBlocks, pull_number}
use Rattle.run_laws.proofs.BlockLogs.{same_block, same_put, put_own, put_else}
use Rattle.run_laws.proofs.BlocksKept.{relogged}
use Rattle.run_laws.proofs.Lists.{in-left, in-right}
use Rattle.run_laws.proofs.KnownLives.{known_newest, known_under, cuts_pull, cuts_blocks, cuts_keep, cuts_known, from_but, to_but}

-- the cycle with a line more, and with other known lives and logs
abbrev pub grown : CycleSoFar → Line → List Life → (ℕ → List Entry) → CycleSoFar
grown e line known logs = record { cycle = e.cycle; before = e.before; lines = line ∷ e.lines; known = known; carried = e.carried; marks = e.marks; bits = e.bits; logs = logs; news = e.news; notes = e.notes }

-- the first page of a block, by another name
block_as : (past : List Line) (w : ℕ) {p q : ℕ} → q ≡ p → HasBlock past w p → HasBlock past w q
block_as past w is h = record { block = h.block; out = h.out; of_proc = h.of_proc; first = h.first ∙ sym is }

module _ (e : CycleSoFar) (now : KnowsBlocks e) where
  -- ---- entries and lines that tell nothing of blocks

  module _ (logs : ℕ → List Entry) (same : (v : ℕ) → out_of (logs v) ≡ out_of (e.logs v)) (same_cuts : (v : ℕ) → cuttings (logs v) ≡ cuttings (e.logs v)) where
    was_out : (v : ℕ) (b : OutBlock) → out_of (logs v) ≡ Some b → out_of (e.logs v) ≡ Some b
    was_out v b z = sym (same v) ∙ z

    is_out : (v : ℕ) (b : OutBlock) → out_of (e.logs v) ≡ Some b → out_of (logs v) ≡ Some b
    is_out v b z = same v ∙ z

    was_cut : (v : ℕ) (x : CutOut) → In x (cuttings (logs v)) → In (cut_line e.cycle v x) e.lines ⊎ In x (cuts_of (logs v))
    was_cut v x h = elim (now.cut v x (subst (λ (l : List CutOut). In x l) (same_cuts v) h)) [
      | inl line ↦ inl line
      | inr at ↦ inr (subst (λ (o : Option OutBlock). In x (cuts_in o)) (sym (same v)) at)
    ]

    pub logs_know : (bits : ℕ → ℕ → Bool) → KnowsBlocks (relogged e bits logs)
    logs_know bits = record {
      out = λ v b z. now.out v b (was_out v b z);
      number = λ v b z. now.number v b (was_out v b z);
      of_cycle = now.of_cycle;
      of_log = λ block h. let r = now.of_log block h in (r.0, is_out block.proc r.0 r.1);
      cut = was_cut;
      lives = λ known h. elim (now.lives known h) [ inl a ↦ inl a | inr b ↦ inr (b.0, b.1, b.2, is_out b.0 b.1 b.3, b.4, b.5) ];
    }

    module _ (line : Line) (lives : List Life) where
      -- an open life, where the line keeps those that begin at its page
      open_under : (known : Life) → ((life : Life) → In life (open_lives (past_after e)) → life.page ≡ known.page → In life (open_lives (line ∷ past_after e))) → IsOpenLife e known → IsOpenLife (grown e line lives logs) known
      open_under known keeps (inl a) = inl (a.0, keeps a.0 a.1 (sym a.2.page), known_under line (past_after e) a.0 known a.1 a.2)
      open_under known keeps (inr b) = inr (b.0, b.1, b.2, is_out b.0 b.1 b.3, b.4, b.5)

      pub line_knows : open_blocks (line ∷ past_after e) ≡ open_blocks (past_after e) → ((v : ℕ) → pull_number v (line ∷ past_after e) ≡ pull_number v (past_after e))
          → ((known : Life) → In known lives → IsOpenLife (grown e line lives logs) known) → KnowsBlocks (grown e line lives logs)
      line_knows blocks pulls known = record {
        out = λ v b z. let h = now.out v b (was_out v b z) in record { block = h.block; out = subst (λ (l : List OpenBlock). In h.block l) (sym blocks) h.out; of_proc = h.of_proc; first = h.first };
        number = λ v b z. pulls v ∙ now.number v b (was_out v b z);
        of_cycle = λ block h. now.of_cycle block (subst (λ (l : List OpenBlock). In block l) blocks h);
        of_log = λ block h. let r = now.of_log block (subst (λ (l : List OpenBlock). In block l) blocks h) in (r.0, is_out block.proc r.0 r.1);
        cut = λ v x h. elim (was_cut v x h) [ inl at ↦ inl (inr at) | inr at ↦ inr at ];
        lives = known;
      }

  -- a line of which neither lives nor blocks know
  pub quiet_line_knows : (line : Line) → open_blocks (line ∷ past_after e) ≡ open_blocks (past_after e) → ((v : ℕ) → pull_number v (line ∷ past_after e) ≡ pull_number v (past_after e))
      → open_lives (line ∷ past_after e) ≡ open_lives (past_after e) → KnowsBlocks (after_line e line)
  quiet_line_knows line blocks pulls same = line_knows e.logs (λ v. refl) (λ v. refl) line e.known blocks pulls
      (λ known h. open_under e.logs (λ v. refl) (λ v. refl) line e.known known (λ life g page. subst (λ (l : List Life). In life l) (sym same) g) (now.lives known h))

  -- ---- a span is taken, or given back

  pub take_knows : (w p pages class : ℕ) → KnowsBlocks (after_took e w p pages class)
  take_knows w p pages class = line_knows logs same cuts (TakeLine e.cycle p pages class) (new ∷ e.known) refl (λ v. refl) lives
    where
      new : Life
      new = new_life (length (past_after e)) e.cycle p pages class

      logs : ℕ → List Entry
      logs = (after_took e w p pages class).logs

      same : (v : ℕ) → out_of (logs v) ≡ out_of (e.logs v)
      same v = (same_put e.logs w (Took (length (past_after e)) (TakeLine e.cycle p pages class)) (record { out = refl; lines = λ cycle u. refl; pullings = refl; settlings = refl; cuts = refl }) v).out

      cuts : (v : ℕ) → cuttings (logs v) ≡ cuttings (e.logs v)
      cuts v = (same_put e.logs w (Took (length (past_after e)) (TakeLine e.cycle p pages class)) (record { out = refl; lines = λ cycle u. refl; pullings = refl; settlings = refl; cuts = refl }) v).cuts

      lives : (known : Life) → (new ≡ known) ⊎ In known e.known → IsOpenLife (after_took e w p pages class) known
      lives known (inl is) = subst (IsOpenLife (after_took e w p pages class)) is
          (inl (new, inl refl, record { number = sym (known_newest (TakeLine e.cycle p pages class) (past_after e)); cycle = refl; page = refl; pages = refl; class = refl }))
      lives known (inr h) = open_under logs same cuts (TakeLine e.cycle p pages class) (new ∷ e.known) known (λ life g page. inr g) (now.lives known h)

  pub give_knows : (w p pages : ℕ) → KnowsBlocks (after_gave e w p pages)
  give_knows w p pages = line_knows logs same cuts (GiveLine e.cycle p pages) (others p e.known) refl (λ v. refl) lives
    where
      logs : ℕ → List Entry
      logs = (after_gave e w p pages).logs

      same : (v : ℕ) → out_of (logs v) ≡ out_of (e.logs v)
      same v = (same_put e.logs w (Gave p pages) (record { out = refl; lines = λ cycle u. refl; pullings = refl; settlings = refl; cuts = refl }) v).out

      cuts : (v : ℕ) → cuttings (logs v) ≡ cuttings (e.logs v)
      cuts v = (same_put e.logs w (Gave p pages) (record { out = refl; lines = λ cycle u. refl; pullings = refl; settlings = refl; cuts = refl }) v).cuts

      lives : (known : Life) → In known (others p e.known) → IsOpenLife (after_gave e w p pages) known
      lives known h =
          let r = from_others p e.known known h in
          open_under logs same cuts (GiveLine e.cycle p pages) (others p e.known) known (λ life g page. to_others p (open_lives (past_after e)) life g (λ s. r.1 (sym page ∙ s))) (now.lives known r.0)

  -- ---- a block is pulled, a span is cut out of it, and it is settled

  pub pull_knows : (w page pages : ℕ) → out_of (e.logs w) ≡ None → KnowsBlocks (after_pulled e w page pages)
  pull_knows w page pages no_block = record {
    out = λ v b z. elim (cases_eq v w) [
      | inl is ↦ (let same = own v b is z in record { block = block_of w e.cycle page; out = inl refl; of_proc = sym is; first = ap (λ (g : OutBlock). g.page) same })
      | inr isnt ↦ (let h = now.out v b (was_out_else v b isnt z) in record { block = h.block; out = inr h.out; of_proc = h.of_proc; first = h.first })
    ];
    number = λ v b z. elim (cases_eq v w) [
      | inl is ↦ rw (eq-eqb w v (sym is)) (ap (λ (g : OutBlock). g.number) (own v b is z))
      | inr isnt ↦ rw (ne_eqb w v (λ s. isnt (sym s))) (now.number v b (was_out_else v b isnt z))
    ];
    of_cycle = λ block h. elim h [ inl is ↦ sym (ap (λ (g : OpenBlock). g.cycle) is) | inr old ↦ now.of_cycle block old ];
    of_log = λ block h. elim h [
      | inl is ↦ (new, ap out_of (log_own block.proc (sym (ap (λ (g : OpenBlock). g.proc) is))))
      | inr old ↦ (let r = now.of_log block old in (r.0, is_out_else block.proc r.0 r.1))
    ];
    cut = λ v x h. elim (cases_eq v w) [
      | inl is ↦ (
          let h' : In x (cuttings (e.logs w)) = subst (λ (l : List Entry). In x (cuttings l)) (log_own v is) h in
          elim (now.cut w x h') [
            | inl at ↦ inl (inr (subst (λ (u : ℕ). In (cut_line e.cycle u x) e.lines) (sym is) at))
            | inr at ↦ absurd (subst (λ (o : Option OutBlock). In x (cuts_in o)) no_block at)
          ])
      | inr isnt ↦ elim (now.cut v x (subst (λ (l : List Entry). In x (cuttings l)) (log_else v isnt) h)) [
        | inl at ↦ inl (inr at)
        | inr at ↦ inr (subst (λ (l : List Entry). In x (cuts_of l)) (sym (log_else v isnt)) at)
      ]
    ];
    lives = λ known h. elim (now.lives known h) [
      | inl a ↦ inl (a.0, a.1, known_under line (past_after e) a.0 known a.1 a.2)
      | inr b ↦ inr (b.0, b.1, b.2, is_out_else b.0 b.1 b.3, b.4, b.5)
    ];
  }
    where
      line : Line
      line = PullLine e.cycle w page pages

      next : CycleSoFar
      next = after_pulled e w page pages

      new : OutBlock
      new = record { number = length (past_after e); page = page; pages = pages; cuts = [] }

      log_own : (v : ℕ) → v ≡ w → next.logs v ≡ Pulled (length (past_after e)) line ∷ e.logs w
      log_own v is = put_own e.logs w (Pulled (length (past_after e)) line ∷ e.logs w) v is

      log_else : (v : ℕ) → v ≢ w → next.logs v ≡ e.logs v
      log_else v isnt = put_else e.logs w (Pulled (length (past_after e)) line ∷ e.logs w) v isnt

      own : (v : ℕ) (b : OutBlock) → v ≡ w → out_of (next.logs v) ≡ Some b → new ≡ b
      own v b is z = same_block new b (sym (ap out_of (log_own v is)) ∙ z)

      was_out_else : (v : ℕ) (b : OutBlock) → v ≢ w → out_of (next.logs v) ≡ Some b → out_of (e.logs v) ≡ Some b
      was_out_else v b isnt z = sym (ap out_of (log_else v isnt)) ∙ z

      -- a block that was out before is another worker's
      is_out_else : (v : ℕ) (b : OutBlock) → out_of (e.logs v) ≡ Some b → out_of (next.logs v) ≡ Some b
      is_out_else v b z = ap out_of (log_else v (λ is. some_none b (sym z ∙ ap (λ (u : ℕ). out_of (e.logs u)) is ∙ no_block))) ∙ z

  pub cut_knows : (w : ℕ) (b : OutBlock) (p pages class : ℕ) → out_of (e.logs w) ≡ Some b → KnowsBlocks (after_cut_out e w b.number p pages class)
  cut_knows w b p pages class block = record {
    out = λ v g z. let r = before v g z in block_as (past_after e) v r.3 (now.out v r.0 r.1);
    number = λ v g z. let r = before v g z in now.number v r.0 r.1 ∙ sym r.2;
    of_cycle = now.of_cycle;
    of_log = λ one h. let r = now.of_log one h in let s = behind one.proc r.0 r.1 in (s.0, s.1);
    cut = λ v x h. elim (cases_eq v w) [
      | inl is ↦ (
          let h' : (new ≡ x) ⊎ In x (cuttings (e.logs w)) = subst (λ (l : List Entry). In x (cuttings l)) (put_own e.logs w (CutEntry p pages class ∷ e.logs w) v is) h in
          elim h' [
            | inl here ↦ inr (subst (λ (o : Option OutBlock). In x (cuts_in o)) (sym (own v is)) (inl here))
            | inr there ↦ elim (now.cut w x there) [
              | inl at ↦ inl (subst (λ (u : ℕ). In (cut_line e.cycle u x) e.lines) (sym is) at)
              | inr at ↦ inr (subst (λ (o : Option OutBlock). In x (cuts_in o)) (sym (own v is)) (inr (subst (λ (o : Option OutBlock). In x (cuts_in o)) block at)))
            ]
          ])
      | inr isnt ↦ elim (now.cut v x (subst (λ (l : List Entry). In x (cuttings l)) (put_else e.logs w (CutEntry p pages class ∷ e.logs w) v isnt) h)) [
        | inl at ↦ inl at
        | inr at ↦ inr (subst (λ (o : Option OutBlock). In x (cuts_in o)) (sym (other v isnt)) at)
      ]
    ];
    lives = lives;
  }
    where
      next : CycleSoFar
      next = after_cut_out e w b.number p pages class

      new : CutOut
      new = cut_out p pages class

      own : (v : ℕ) → v ≡ w → out_of (next.logs v) ≡ Some (with_cut new b)
      own v is = ap out_of (put_own e.logs w (CutEntry p pages class ∷ e.logs w) v is) ∙ ap (option_map (with_cut new)) block

      other : (v : ℕ) → v ≢ w → out_of (next.logs v) ≡ out_of (e.logs v)
      other v isnt = ap out_of (put_else e.logs w (CutEntry p pages class ∷ e.logs w) v isnt)

      -- a block that is out now was out before, and the other way round
      before : (v : ℕ) (g : OutBlock) → out_of (next.logs v) ≡ Some g → (a : OutBlock) × (out_of (e.logs v) ≡ Some a) × (g.number ≡ a.number) × (g.page ≡ a.page)
      before v g z = elim (cases_eq v w) [
        | inl is ↦ (
            let same = same_block (with_cut new b) g (sym (own v is) ∙ z) in
            (b, ap (λ (u : ℕ). out_of (e.logs u)) is ∙ block, sym (ap (λ (x : OutBlock). x.number) same), sym (ap (λ (x : OutBlock). x.page) same)))
        | inr isnt ↦ (g, sym (other v isnt) ∙ z, refl, refl)
      ]

      behind : (v : ℕ) (a : OutBlock) → out_of (e.logs v) ≡ Some a → (g : OutBlock) × (out_of (next.logs v) ≡ Some g) × (a.number ≡ g.number) × ((x : CutOut) → In x a.cuts → In x g.cuts)
      behind v a z = elim (cases_eq v w) [
        | inl is ↦ (
            let same = same_block a b (sym z ∙ ap (λ (u : ℕ). out_of (e.logs u)) is ∙ block) in
            (with_cut new b, own v is, ap (λ (x : OutBlock). x.number) same, λ x h. inr (subst (λ (y : OutBlock). In x y.cuts) same h)))
        | inr isnt ↦ (a, other v isnt ∙ z, refl, λ x h. h)
      ]

      lives : (known : Life) → (new_life b.number e.cycle p pages class ≡ known) ⊎ In known e.known → IsOpenLife next known
      lives known (inl is) = inr (w, with_cut new b, new, own w refl, inl refl, sym is)
      lives known (inr h) = elim (now.lives known h) [
        | inl a ↦ inl a
        | inr r ↦ (let s = behind r.0 r.1 r.3 in inr (r.0, s.0, r.2, s.1, s.3 r.2 r.4, r.5 ∙ ap (λ (n : ℕ). new_life n e.cycle r.2.page r.2.pages r.2.class) s.2))
      ]

  pub drop_knows : (w : ℕ) (b : OutBlock) → out_of (e.logs w) ≡ Some b → KnowsBlocks (after_settled e w b)
  drop_knows w b block = record {
    out = λ v g z. let r = before v g z in let h = now.out v g r.1 in record {
      block = h.block;
      out = there h.block h.out (λ s. r.0 (sym h.of_proc ∙ s));
      of_proc = h.of_proc;
      first = h.first;
    };
    number = λ v g z. let r = before v g z in pulls v ∙ now.number v g r.1;
    of_cycle = λ one h. now.of_cycle one (here one h).0;
    of_log = λ one h. let k = here one h in let r = now.of_log one k.0 in (r.0, behind one.proc r.0 k.1 r.1);
    cut = λ v x h. elim (cases_eq v w) [
      | inl is ↦ (
          let h' : In x (cuttings (e.logs w)) = subst (λ (l : List Entry). In x (cuttings l)) (put_own e.logs w log v is) h in
          let at : In (cut_line e.cycle w x) next.lines = elim (now.cut w x h') [
            | inl at ↦ inr (in-right cut_lines e.lines (cut_line e.cycle w x) at)
            | inr at ↦ inr (in-left cut_lines e.lines (cut_line e.cycle w x) (in-lines b.cuts x (subst (λ (o : Option OutBlock). In x (cuts_in o)) block at)))
          ] in
          inl (subst (λ (u : ℕ). In (cut_line e.cycle u x) next.lines) (sym is) at))
      | inr isnt ↦ elim (now.cut v x (subst (λ (l : List Entry). In x (cuttings l)) (put_else e.logs w log v isnt) h)) [
        | inl at ↦ inl (inr (in-right cut_lines e.lines (cut_line e.cycle v x) at))
        | inr at ↦ inr (subst (λ (l : List Entry). In x (cuts_of l)) (sym (put_else e.logs w log v isnt)) at)
      ]
    ];
    lives = λ known h. elim (now.lives known h) [
      | inl a ↦ inl (
          let k = cuts_keep e.cycle w (past_after e) b.cuts a.0 known a.1 a.2 in
          let r = written a.0 known k.0 k.1 in
          (a.0, r.0, r.1))
      | inr r ↦ elim (cases_eq r.0 w) [
        | inl is ↦ inl (
            let same = same_block r.1 b (sym r.3 ∙ ap (λ (u : ℕ). out_of (e.logs u)) is ∙ block) in
            let k = cuts_known e.cycle w (past_after e) b.cuts r.2 (subst (λ (y : OutBlock). In r.2 y.cuts) same r.4) in
            let name : new_life (pull_number w (past_after e)) e.cycle r.2.page r.2.pages r.2.class ≡ known =
            ap (λ (n : ℕ). new_life n e.cycle r.2.page r.2.pages r.2.class) (now.number w b block ∙ sym (ap (λ (y : OutBlock). y.number) same)) ∙ sym r.5 in
            let q = written k.0 known k.1 (subst (IsKnownAs (cut_lines ++ past_after e) k.0) name k.2) in
            (k.0, q.0, q.1))
        | inr isnt ↦ inr (r.0, r.1, r.2, behind r.0 r.1 isnt r.3, r.4, r.5)
      ]
    ];
  }
    where
      next : CycleSoFar
      next = after_settled e w b

      cut_lines : List Line
      cut_lines = map (cut_line e.cycle w) b.cuts

      last : Line
      last = DropLine e.cycle w b.page (b.pages - pages_cut b.cuts)

      in-lines : (cuts : List CutOut) (x : CutOut) → In x cuts → In (cut_line e.cycle w x) (map (cut_line e.cycle w) cuts)
      in-lines [] x h = absurd h
      in-lines (y ∷ cuts) x h = elim h [ inl is ↦ inl (ap (cut_line e.cycle w) is) | inr rest ↦ inr (in-lines cuts x rest) ]

      past_is : last ∷ (cut_lines ++ past_after e) ≡ past_after next
      past_is = ap (λ (l : List Line). last ∷ l) (sym (append_assoc cut_lines e.lines e.before))

      log : List Entry
      log = Settled (length b.cuts + length (past_after e)) ∷ e.logs w

      -- the blocks that are out are those of the other processors
      here : (one : OpenBlock) → In one (open_blocks (past_after next)) → In one (open_blocks (past_after e)) × (one.proc ≢ w)
      here one h =
          let r = from_but w (open_blocks (cut_lines ++ past_after e)) one (subst (λ (l : List Line). In one (open_blocks l)) (sym past_is) h) in
          (subst (λ (l : List OpenBlock). In one l) (cuts_blocks e.cycle w (past_after e) b.cuts) r.0, r.1)

      there : (one : OpenBlock) → In one (open_blocks (past_after e)) → one.proc ≢ w → In one (open_blocks (past_after next))
      there one h isnt = subst (λ (l : List Line). In one (open_blocks l)) past_is
          (to_but w (open_blocks (cut_lines ++ past_after e)) one (subst (λ (l : List OpenBlock). In one l) (sym (cuts_blocks e.cycle w (past_after e) b.cuts)) h) isnt)

      before : (v : ℕ) (g : OutBlock) → out_of (next.logs v) ≡ Some g → (v ≢ w) × (out_of (e.logs v) ≡ Some g)
      before v g z = elim (cases_eq v w) [
        | inl is ↦ absurd (some_none g (sym z ∙ ap out_of (put_own e.logs w log v is)))
        | inr isnt ↦ (isnt, sym (ap out_of (put_else e.logs w log v isnt)) ∙ z)
      ]

      behind : (v : ℕ) (g : OutBlock) → v ≢ w → out_of (e.logs v) ≡ Some g → out_of (next.logs v) ≡ Some g
      behind v g isnt z = ap out_of (put_else e.logs w log v isnt) ∙ z

      pulls : (v : ℕ) → pull_number v (past_after next) ≡ pull_number v (past_after e)
      pulls v = ap (pull_number v) (sym past_is) ∙ cuts_pull e.cycle w (past_after e) v b.cuts

      written : (life known : Life) → In life (open_lives (cut_lines ++ past_after e)) → IsKnownAs (cut_lines ++ past_after e) life known → In life (open_lives (past_after next)) × IsKnownAs (past_after next) life known
      written life known h is = subst (λ (l : List Line). In life (open_lives l) × IsKnownAs l life known) past_is (h, known_under last (cut_lines ++ past_after e) life known h is)

-- ---- no block is out

pub no-cuts : (e : CycleSoFar) → ((w : ℕ) → out_of (e.logs w) ≡ None) → (w : ℕ) → cuts_of (e.logs w) ≡ []
no-cuts e none w = ap cuts_in (none w)

module _ (e : CycleSoFar) (now : KnowsBlocks e) (none : (w : ℕ) → out_of (e.logs w) ≡ None) where
  not_out : (block : OpenBlock) → In block (open_blocks (past_after e)) → ⊥
  not_out block h = let r = now.of_log block h in some_none r.0 (sym r.1 ∙ none block.proc)

  pub no-blocks-out : open_blocks (past_after e) ≡ []
  no-blocks-out = go (open_blocks (past_after e)) not_out
    where
      go : (blocks : List OpenBlock) → ((block : OpenBlock) → In block blocks → ⊥) → blocks ≡ []
      go [] none_in = refl
      go (block ∷ blocks) none_in = absurd (none_in block (inl refl))

  -- the lives that workers know are lives of the journal
  pub known-journal : (known : Life) → In known e.known → (life : Life) × In life (open_lives (past_after e)) × IsKnownAs (past_after e) life known
  known-journal known h = elim (now.lives known h) [ inl a ↦ a | inr b ↦ absurd (some_none b.1 (sym b.3 ∙ none b.0)) ]

  -- a span that was cut has its line
  pub cut-line : (w : ℕ) (x : CutOut) → In x (cuttings (e.logs w)) → In (cut_line e.cycle w x) e.lines
  cut-line w x h = elim (now.cut w x h) [ inl at ↦ at | inr at ↦ absurd (subst (λ (l : List CutOut). In x l) (no-cuts e none w) at) ]

  -- a mark end begins the next cycle
  pub next_knows : (marks : List (ℕ × ℕ)) → KnowsBlocks (after_mark_end e marks)
  next_knows marks = record {
    out = λ w b z. absurd (some_none b (sym z));
    number = λ w b z. absurd (some_none b (sym z));
    of_cycle = λ block h. absurd (not_out block h);
    of_log = λ block h. absurd (not_out block h);
    cut = λ w x h. absurd h;
    lives = λ known h. inl (known-journal known h);
  }

-- as a run begins, nothing is known
pub start_knows : KnowsBlocks first_cycle
start_knows = record {
  out = λ w b z. absurd (some_none b (sym z));
  number = λ w b z. absurd (some_none b (sym z));
  of_cycle = λ block h. absurd h;
  of_log = λ block h. absurd h;
  cut = λ w x h. absurd h;
  lives = λ known h. absurd h;
}

-- ---- all moves

module _ (c : CoreState) (e : CycleSoFar) (now : KnowsBlocks e) where
  pub move_knows : (move : Move) (next : CycleSoFar) → BlocksGoOn c e move next → KnowsBlocks next
  move_knows (Lock w) next on = subst KnowsBlocks (sym on) now
  move_knows (Unlock w) next on = subst KnowsBlocks (sym on) now
  move_knows (Take w p pages count class) next on = subst KnowsBlocks (sym on.1) (take_knows e now w p pages class)
  move_knows (Give w p) next on = subst KnowsBlocks (sym on.1) (give_knows e now w p (life_of c p).pages)
  move_knows (Acquire w p) next on = subst KnowsBlocks (sym on) now
  move_knows (Release w p) next on = subst KnowsBlocks (sym on.2)
      (logs_know e now _ (λ v. (same_put e.logs w (Swept on.1) (record { out = refl; lines = λ cycle u. refl; pullings = refl; settlings = refl; cuts = refl }) v).out)
      (λ v. (same_put e.logs w (Swept on.1) (record { out = refl; lines = λ cycle u. refl; pullings = refl; settlings = refl; cuts = refl }) v).cuts) _)
  move_knows (Cache w p) next on = subst KnowsBlocks (sym on) now
  move_knows (Allocate w p i) next on = subst KnowsBlocks (sym on.1)
      (logs_know e now _ (λ v. (same_put e.logs w (Allocated on.0) (record { out = refl; lines = λ cycle u. refl; pullings = refl; settlings = refl; cuts = refl }) v).out)
      (λ v. (same_put e.logs w (Allocated on.0) (record { out = refl; lines = λ cycle u. refl; pullings = refl; settlings = refl; cuts = refl }) v).cuts) _)
  move_knows (Uncache w p) next on = subst KnowsBlocks (sym on) now
  move_knows (StaleUncache w p) next on = subst KnowsBlocks (sym on) now
  move_knows (Claim w s p) next on = subst KnowsBlocks (sym on) now
  move_knows (Fill w) next on = subst KnowsBlocks (sym on) now
  move_knows (PopSwept w s) next on = subst KnowsBlocks (sym on) now
  move_knows (PopUnswept w s) next on = subst KnowsBlocks (sym on) now
  move_knows (DropPopped w p) next on = subst KnowsBlocks (sym on) now
  move_knows (Pull w) next on = subst KnowsBlocks (sym on.4) (pull_knows e now w on.0 on.1 on.2)
  move_knows (Cut w p pages count class) next on = subst KnowsBlocks (sym on.3) (cut_knows e now w on.0 p pages class on.1)
  move_knows (Drop w) next on = subst KnowsBlocks (sym on.2) (drop_knows e now w on.0 on.1)
  move_knows (Next marks) next on = subst KnowsBlocks (sym on.1) (next_knows e now on.0 marks)
