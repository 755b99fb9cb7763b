-- The rest of a print's row, once the operands are in its frame: the format, where the answer goes, and the call.
use Rattle.std.proofs.Common.{◌≡◌, ℕ, suc, pos, ◌<◌, ◌≤◌, List, [], ◌∷◌, length, Option, Some, arith}
use Rattle.std.specs.Prelude.{slice_get}
use Rattle.process_ways.specs.Ways.{Way}
use Rattle.limbo_typed.specs.Typed as typed
use Rattle.limbo_typed.specs.declared.print.Piece.{Piece}
use Rattle.limbo_meaning.specs.Process.{Shared}
use Rattle.core_code.specs.Code.{Print}
use Rattle.core_code.specs.Machine as code
use Rattle.core_code.specs.Slots as core
use Rattle.core_code.specs.Slots.{slot_names}
use Rattle.dis_meaning.specs.Words.{Word, Refer, Address, InFrame, Found, word_at}
use Rattle.dis_meaning.specs.Process.{Frame, Process}
use Rattle.dis_memory.specs.Blocks.{World}
use Rattle.dis_memory.specs.Formats as formats
use Rattle.dis_memory.specs.Kinds.{text_at}
use Rattle.value_words.specs.Contents.{AreInRange}
use Rattle.value_words.specs.Facts.{Facts, Grows, IsText}
use Rattle.value_words.proofs.Later.{text_later}
use Rattle.value_frames.specs.Frames.{answer_place, number_place, reference_place}
use Rattle.value_moves.specs.Operands.{own}
use Rattle.value_code.specs.Code.{format_text, code_of}
use Rattle.value_follows.specs.Stands.{types_of}
use Rattle.value_follows.specs.Sides.{sides, HoldTheSame}
use Rattle.value_follows.specs.Rows.{place, Base, site_of}
use Rattle.rows_calling.proofs.OnTheWay.{On, on_way, row_here, reaches_it}
use Rattle.rows_calling.proofs.Making.{Made}
use Rattle.rows_calling.proofs.Answering.{addressing}
use Rattle.rows_printing.proofs.Filling.{HasFormat, format_step, address_step, formatting}
use Rattle.rows_printing.proofs.Framing.{IsFilled}
use Rattle.rows_printing.proofs.Printing.{Gathered, text, calling, print_step, frame_reads}
use Rattle.rows_printing.proofs.Way.{HasSys, size, sys_later, filled_later}

module _ (m : typed.Module) (b : Base m) (i : ℕ) (p : code.Process) (n : ℕ) (f : typed.Function) (ps : List Piece) (into : ℕ) (o : Option ℕ)
    (here : slice_get p.frame.code p.frame.pc ≡ Some (Print ps into o))
    (none : (s : ℕ) → slot_names (core.slot p.frame.slots into) s ≡ 0) (few : into < length p.frame.slots)
    -- what the words behind the format are
    (Args : Facts → List Word → Type 0)
    (later : (k now : Facts) (words : List Word) → Grows k now → Args k words → Args now words)
    (stays : (k : Facts) (words others : List Word) → ((v : ℕ) → 9 ≤ v → slice_get others v ≡ slice_get words v) → AreInRange words
    → AreInRange others → Args k words → Args k others)
    -- the format makes the text of them
    (makes : (k : Facts) (x : World) (words : List Word) → Args k words
    → ((at : ℕ) (r : Option ℕ) (t : List ℕ) → IsText k r t → word_at words (pos at) ≡ Found (Refer r) → text_at x r ≡ Found t)
    → formats.formatted x words (format_text ps) 36 ≡ Found (text m b i p n f ps into o here none))
    -- the operands' slot stands for a whole value in the end
    (gathers : (k : Facts) (w : Shared) (x : World) (j : ℕ) (q : Process) → (on : On m k i x (into ∷ []) n f j p q) → HoldTheSame m k i x p q
    → (sides m).worlds k w x → Gathered m b i p n f ps into o here none k w x q on.known)
    (j : ℕ) (last : suc (suc (suc (suc j))) ≡ size m b i p n f ps into o here none)
    (first : (at : ℕ) → slice_get (code_of (site_of m n f p.frame.pc at) (Print ps into o)) j
    ≡ Some (formatting at))
    (second : (at : ℕ) → slice_get (code_of (site_of m n f p.frame.pc at) (Print ps into o)) (suc j)
    ≡ Some (addressing (own (number_place m.adts (types_of m f) into))))
    (third : (at : ℕ) → slice_get (code_of (site_of m n f p.frame.pc at) (Print ps into o)) (suc (suc j)) ≡ Some (calling m b i p n f ps into o here none)) where
  abbrev r_at : ℕ
  r_at = reference_place m.adts (types_of m f) into

  abbrev n_at : ℕ
  n_at = number_place m.adts (types_of m f) into

  abbrev Fills : Facts → Process → Frame → Type 0
  Fills k q c = IsFilled m b i p n f ps into o here none k q c

  format_later : (k now : Facts) (t : List ℕ) (words : List Word) → Grows k now → HasFormat k t words → HasFormat now t words
  format_later k now t words grows h = record { refers = h.refers; word = h.word; is = text_later m.adts k now words grows h.refers t h.is }

  -- the call
  call_way : (k : Facts) (x : World) (q : Process) (c : Frame) → On m k i x (into ∷ []) n f (suc (suc j)) p q → HasSys k r_at q → Made q c → Fills k q c
      → HasFormat k (format_text ps) c.words → word_at c.words (pos answer_place) ≡ Found (Address (InFrame q.frame.serial) (pos n_at))
      → Args k c.words → HoldTheSame m k i x p q → Way (sides m) (place m) 2 k i x p q
  call_way k x q c on s has fill format address args hold =
      on_way m b i p q (into ∷ []) n f (suc (suc j)) 1 k x on hold (λ now w y grows on' hold' worlds'.
      let s' = sys_later k now r_at q grows s in
      let gathered = gathers now w y (suc (suc j)) q on' hold' worlds' in
      print_step m b i p n f ps into o here none now w y (suc (suc j)) q c on' s' has hold' worlds' gathered last few
      (reaches_it m b i p q (into ∷ []) n f (suc (suc j)) now w y on' hold' worlds' (Print ps into o) here (calling m b i p n f ps into o here none)
      (third (row_here m b i p q (into ∷ []) n f (suc (suc j)) now w y on' hold' worlds' (Print ps into o) here).at))
      (format_later k now (format_text ps) c.words grows format) address
      (makes now y c.words (later k now c.words grows args)
      (frame_reads m b i p n f ps into o here none now w y (suc (suc j)) q c on' s' has hold' worlds' gathered last few)))

  -- the address of where the answer goes
  address_way : (k : Facts) (x : World) (q : Process) (c : Frame) → On m k i x (into ∷ []) n f (suc j) p q → HasSys k r_at q → Made q c → Fills k q c
      → HasFormat k (format_text ps) c.words → Args k c.words → HoldTheSame m k i x p q → Way (sides m) (place m) 3 k i x p q
  address_way k x q c on s has fill format args hold =
      on_way m b i p q (into ∷ []) n f (suc j) 2 k x on hold (λ now w y grows on' hold' worlds'.
      address_step m b i p n f ps into o here none now w y (suc j) q c on' (sys_later k now r_at q grows s) has
      (filled_later k now _ _ _ q c grows fill) hold' worlds' few second (format_later k now (format_text ps) c.words grows format)
      (omega (arith, last)) 2
      (λ r d on2 s2 has2 fill2 format2 address2 same held.
      call_way now y r d on2 s2 has2 fill2 format2 address2 (stays now c.words d.words same fill.kind.ranged fill2.kind.ranged (later k now c.words grows args)) held))

  -- the format
  pub rest_way : (k : Facts) (x : World) (q : Process) (c : Frame) → On m k i x (into ∷ []) n f j p q → HasSys k r_at q → Made q c → Fills k q c
      → Args k c.words → HoldTheSame m k i x p q → Way (sides m) (place m) 4 k i x p q
  rest_way k x q c on s has fill args hold =
      on_way m b i p q (into ∷ []) n f j 3 k x on hold (λ now w y grows on' hold' worlds'.
      format_step m b i p n f ps into o here none now w y j q c on' (sys_later k now r_at q grows s) has
      (filled_later k now _ _ _ q c grows fill) hold' worlds'
      (first (row_here m b i p q (into ∷ []) n f j now w y on' hold' worlds' (Print ps into o) here).at)
      (omega (arith, last)) 3
      (λ r d on2 s2 has2 fill2 format2 same held.
      address_way now y r d on2 s2 has2 fill2 format2 (stays now c.words d.words same fill.kind.ranged fill2.kind.ranged (later k now c.words grows args)) held))
