-- What follows of a dump, from what it leaves.
use Rattle.std.proofs.Common.{◌≡◌, ◌≤◌, ℕ, List, ◌⊎◌, inl, inr, refl, subst, sym, true, false, [], arith}
use Rattle.std.specs.Prelude.{Option, Some, None}
use Rattle.inf_ports.specs.Outside.{Told, Rose}
use Rattle.dis_file.specs.declared.object.Object.{Object}
use Rattle.dis_format.specs.declared.fault.FileFault.{FileFault}
use Rattle.dis_format.specs.Objects.{Spells}
use Rattle.dis_format.specs.Reading.{IsFirstFault}
use Rattle.dis_format.proofs.Whole as format
use Rattle.dis_text.specs.Listing.{listing_of}
use Rattle.dis_dump.specs.Dump.{Output, IsDump, IsShown}
use Rattle.dis_dump.specs.declared.command.DumpEnd.{DumpEnd}
use Rattle.dis_dump.specs.declared.command.DumpEnd.TheVariants.{Done, BadObject, Unread, SinkFault, NoMemory}
use Rattle.dis_machine.specs.declared.event.Journal.{Journal}
use Rattle.inferno_top.specs.Dumping.{HasDumped, TellsObject, IsListing, IsObjectRefusal, dump_cause}
use Rattle.inferno_top.specs.Outcome.{IsUnlessMemory, IsUnrun, Tells}
use Rattle.inferno_top.specs.Running.{NothingRan}
use Rattle.inferno_top.specs.declared.cause.Cause.{Cause}
use Rattle.inferno_top.specs.declared.cause.Cause.TheVariants as cause
use Rattle.inferno_top.proofs.Endings.{same_bytes, told_not_lacking}
use Rattle.inferno_top.proofs.Exact.{risen_further}

-- ---- bytes that spell an object, and a fault of bytes

spells_no_fault : {A : Type 0} (o : Object) (bytes : List ℕ) (fault : FileFault) → Spells o bytes → IsFirstFault bytes fault → A
spells_no_fault o bytes fault spelled first =
    let read = format.only o bytes spelled in
    let refused = first.1.0 in
    absurd cc

module _ (told : Told) (file : List ℕ) (before now : ℕ) where
  -- ---- the end

  -- whatever was done, memory may run out behind it
  forgets : (s : Output) (e : DumpEnd) → IsDump told file before now s e → IsDump told file before now s NoMemory
  forgets s Done (inl l) = inl (record { object = l.object; read = l.read; shown = inr (inl l.shown.0) })
  forgets s (SinkFault out err) (inl l) = inl (record { object = l.object; read = l.read; shown = inr l.shown.0 })
  forgets s NoMemory (inl l) = inl l
  forgets s (BadObject fault) (inl l) = absurd l.shown
  forgets s (Unread missing) (inl l) = absurd l.shown
  forgets s e (inr un) = inr (tt, un.1)

  shown_later : (s : Output) (after : ℕ) (text : List ℕ) (e : DumpEnd) → s.err_after ≤ after → IsShown s text e
      → IsShown (record s { err_after = after }) text e
  shown_later s after text Done up is = (is.0, (is.1.0, (omega (arith, is.1.1.0), is.1.1.1, is.1.1.2)))
  shown_later s after text (SinkFault out err) up is = (is.0, is.1, omega (arith, is.2), is.3)
  shown_later s after text NoMemory up is = is
  shown_later s after text (BadObject fault) up is = is
  shown_later s after text (Unread missing) up is = is

  dump_later : (s : Output) (after : ℕ) (e : DumpEnd) → s.err_after ≤ after → IsDump told file before now s e
      → IsDump told file before now (record s { err_after = after }) e
  dump_later s after e up (inl l) =
      inl (record { object = l.object; read = l.read; shown = shown_later s after (listing_of l.object) e up l.shown })
  dump_later s after e up (inr un) = inr un

  -- ---- what was listed

  listing_at : (s : Output) (e : DumpEnd) (cause : Cause) (o : Object) → TellsObject told file o → (Rose before now → ⊥)
      → cause ≡ dump_cause file e → IsDump told file before now s e → IsListing file o s cause
  listing_at s e cause o t calm said (inl l) =
      let same : t.bytes ≡ l.read.bytes = same_bytes told file t.bytes l.read.bytes t.tells l.read.stands in
      let here : Spells o l.read.bytes = subst (λ (bs : List ℕ). Spells o bs) same t.spelled in
      let one : l.object ≡ o = format.one_object l.object o l.read.bytes l.read.spelled here in
      record { end = e; shown = subst (λ (p : Object). IsShown s (listing_of p) e) one l.shown; said = said }
  listing_at s Done cause o t calm said (inr un) = absurd un.0
  listing_at s (SinkFault out err) cause o t calm said (inr un) = absurd un.0
  listing_at s (BadObject fault) cause o t calm said (inr un) =
      let same : t.bytes ≡ un.0.bytes = same_bytes told file t.bytes un.0.bytes t.tells un.0.stands in
      let here : Spells o un.0.bytes = subst (λ (bs : List ℕ). Spells o bs) same t.spelled in
      spells_no_fault o un.0.bytes fault here un.0.because
  listing_at s (Unread true) cause o t calm said (inr un) = told_not_lacking told file t.bytes t.tells un.0
  listing_at s (Unread false) cause o t calm said (inr un) = absurd (calm un.0)
  listing_at s NoMemory cause o t calm said (inr un) = record { end = NoMemory; shown = inl un.1; said = said }

  -- ---- why nothing was listed

  refusal_at : (s : Output) (e : DumpEnd) (bytes : List ℕ) → Tells told file (Some bytes)
      → ((o : Object) → Spells o bytes → ⊥) → (Rose before now → ⊥) → IsDump told file before now s e
      → IsObjectRefusal file bytes (dump_cause file e)
  refusal_at s e bytes tells none calm (inl l) =
      let same : l.read.bytes ≡ bytes = sym (same_bytes told file bytes l.read.bytes tells l.read.stands) in
      absurd (none l.object (subst (λ (bs : List ℕ). Spells l.object bs) same l.read.spelled))
  refusal_at s Done bytes tells none calm (inr un) = absurd un.0
  refusal_at s (SinkFault out err) bytes tells none calm (inr un) = absurd un.0
  refusal_at s (BadObject fault) bytes tells none calm (inr un) =
      let same : un.0.bytes ≡ bytes = sym (same_bytes told file bytes un.0.bytes tells un.0.stands) in
      (refl, subst (λ (bs : List ℕ). IsFirstFault bs fault) same un.0.because)
  refusal_at s (Unread true) bytes tells none calm (inr un) = told_not_lacking told file bytes tells un.0
  refusal_at s (Unread false) bytes tells none calm (inr un) = absurd (calm un.0)
  refusal_at s NoMemory bytes tells none calm (inr un) = tt

  module _ (s : Output) (journal : Option Journal) (objects : List (List ℕ × Object)) (said : Cause) where
    -- the command as a whole, or up to its closing line
    abbrev Done_so : Cause → Type 0
    Done_so cause = HasDumped told file before now s journal objects cause

    pub told_as : (e : DumpEnd) → journal ≡ None → objects ≡ [] → IsDump told file before now s e
        → (said ≡ dump_cause file e) ⊎ (said ≡ cause.NoMemory) → Done_so said
    told_as e unstarted none dumped (inl told_so) =
        record { unstarted = unstarted; none = none; end = e; dumped = dumped; said = told_so }
    told_as e unstarted none dumped (inr memory) = record {
      unstarted = unstarted;
      none = none;
      end = NoMemory;
      dumped = forgets s e dumped;
      said = memory;
    }

    pub closed : Done_so said → (last : Cause) → (last ≡ said) ⊎ (last ≡ cause.NoMemory) → Done_so last
    closed d last (inl same) = subst Done_so (sym same) d
    closed d last (inr memory) = record {
      unstarted = d.unstarted;
      none = d.none;
      end = NoMemory;
      dumped = forgets s d.end d.dumped;
      said = memory;
    }

    pub later : Done_so said → (after : ℕ) → s.err_after ≤ after
        → HasDumped told file before now (record s { err_after = after }) journal objects said
    later d after up = record {
      unstarted = d.unstarted;
      none = d.none;
      end = d.end;
      dumped = dump_later s after d.end up d.dumped;
      said = d.said;
    }

    pub listed : Done_so said → (o : Object) → TellsObject told file o → (Rose before now → ⊥) → IsListing file o s said
    listed d o t calm = listing_at s d.end said o t calm d.said d.dumped

    pub unspelled : Done_so said → (bytes : List ℕ) → Tells told file (Some bytes) → ((o : Object) → Spells o bytes → ⊥)
        → (Rose before now → ⊥) → IsObjectRefusal file bytes said
    unspelled d bytes tells none calm =
        subst (IsObjectRefusal file bytes) (sym d.said) (refusal_at s d.end bytes tells none calm d.dumped)

    at_quiet : (e : DumpEnd) → IsDump told file before now s e → IsUnrun (dump_cause file e) → s.new ≡ s.old
    at_quiet e (inr un) unrun = un.1
    at_quiet Done (inl l) unrun = absurd unrun
    at_quiet (SinkFault out err) (inl l) unrun = absurd unrun
    at_quiet NoMemory (inl l) unrun = absurd unrun
    at_quiet (BadObject fault) (inl l) unrun = absurd l.shown
    at_quiet (Unread missing) (inl l) unrun = absurd l.shown

    pub quiet : Done_so said → IsUnrun said → NothingRan journal objects s.old s.new
    quiet d unrun = record {
      unstarted = d.unstarted;
      none = d.none;
      unwritten = at_quiet d.end d.dumped (subst IsUnrun d.said unrun);
    }

-- a listing to the end where no count rose
shown_at : (s : Output) (file text : List ℕ) (e : DumpEnd) → IsShown s text e → (Rose s.out_before s.out_after → ⊥)
    → (Rose s.err_before s.err_after → ⊥) → (dump_cause file e ≡ cause.Done) ⊎ (dump_cause file e ≡ cause.NoMemory)
shown_at s file text Done is calm silent = inl refl
shown_at s file text NoMemory is calm silent = inr refl
shown_at s file text (BadObject fault) is calm silent = absurd is
shown_at s file text (Unread missing) is calm silent = absurd is
shown_at s file text (SinkFault out err) is calm silent =
    elim is.3 [
      | inl rose ↦ absurd (calm (subst (λ (n : ℕ). Rose s.out_before n) is.1 rose))
      | inr rose ↦ absurd (silent (risen_further s.err_before err s.err_after is.2 rose))
    ]

pub shown : (s : Output) (file : List ℕ) (o : Object) (said : Cause) → IsListing file o s said
    → (Rose s.out_before s.out_after → ⊥) → (Rose s.err_before s.err_after → ⊥) → IsUnlessMemory said cause.Done
shown s file o said l calm silent =
    subst (λ (x : Cause). IsUnlessMemory x cause.Done) (sym l.said)
    (shown_at s file (listing_of o) l.end l.shown calm silent)

-- a file that isn't there
absent_at : (files : List ℕ → Option (List ℕ)) (file : List ℕ) (before now : ℕ) (s : Output) (e : DumpEnd)
    → files file ≡ None → (Rose before now → ⊥) → IsDump (Some files) file before now s e
    → (dump_cause file e ≡ cause.Host file true) ⊎ (dump_cause file e ≡ cause.NoMemory)
absent_at files file before now s e none calm (inl l) =
    let there : files file ≡ Some l.read.bytes = l.read.stands in absurd cc
absent_at files file before now s Done none calm (inr un) = absurd un.0
absent_at files file before now s (SinkFault out err) none calm (inr un) = absurd un.0
absent_at files file before now s (BadObject fault) none calm (inr un) =
    let there : files file ≡ Some un.0.bytes = un.0.stands in absurd cc
absent_at files file before now s (Unread true) none calm (inr un) = inl refl
absent_at files file before now s (Unread false) none calm (inr un) = absurd (calm un.0)
absent_at files file before now s NoMemory none calm (inr un) = inr refl

pub absent : (told : Told) (file : List ℕ) (before now : ℕ) (s : Output) (journal : Option Journal)
    (objects : List (List ℕ × Object)) (said : Cause) → HasDumped told file before now s journal objects said
    → Tells told file None → (Rose before now → ⊥) → IsUnlessMemory said (cause.Host file true)
absent None file before now s journal objects said d tells calm = absurd tells
absent (Some files) file before now s journal objects said d tells calm =
    subst (λ (x : Cause). IsUnlessMemory x (cause.Host file true)) (sym d.said)
    (absent_at files file before now s d.end tells calm d.dumped)
