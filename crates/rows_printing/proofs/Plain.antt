-- Prints without operands.
use Rattle.std.proofs.Common.{◌≡◌, ℕ, ◌<◌, List, [], ◌∷◌, length, Some, None, refl, arith}
use Rattle.std.specs.Prelude.{slice_get}
use Rattle.process_ways.specs.Ways.{Way}
use Rattle.limbo_typed.specs.Typed as typed
use Rattle.limbo_typed.specs.declared.print.Piece.{Piece}
use Rattle.limbo_meaning.specs.Process.{Shared}
use Rattle.core_code.specs.Code.{Print}
use Rattle.core_code.specs.Machine as code
use Rattle.core_code.specs.Slots as core
use Rattle.core_code.specs.Slots.{slot_names}
use Rattle.core_typing.specs.Held as held
use Rattle.core_typing.specs.Needs.{IsClean, printed}
use Rattle.dis_meaning.specs.Process.{Process}
use Rattle.dis_memory.specs.Blocks.{World}
use Rattle.value_words.specs.Facts.{Facts}
use Rattle.value_frames.specs.Frames.{reference_place}
use Rattle.value_follows.specs.Stands.{types_of}
use Rattle.value_follows.specs.Sides.{sides, HoldTheSame}
use Rattle.value_follows.specs.Rows.{place, Base}
use Rattle.value_follows.proofs.Several.{Next}
use Rattle.value_follows.proofs.Single.{nothing_changes}
use Rattle.value_follows.proofs.Slots.{uses}
use Rattle.value_follows.proofs.Standing.{finds}
use Rattle.rows_calling.proofs.OnTheWay.{On, on_way, on_of, on_later, reaches_it, row_code, frame_is}
use Rattle.rows_calling.proofs.Clean.{unnamed}
use Rattle.rows_printing.specs.Rows.{PlainPrintsGo}
use Rattle.rows_printing.proofs.Formats.{plain_formats}
use Rattle.rows_printing.proofs.Framing.{frame_step, framing}
use Rattle.rows_printing.proofs.Loading.{load_step, loading}
use Rattle.rows_printing.proofs.Printing.{Gathered}
use Rattle.rows_printing.proofs.Rest.{rest_way}
use Rattle.rows_printing.proofs.Way.{HasSys, sys_later}

module _ (m : typed.Module) (b : Base m) (i : ℕ) (p : code.Process) (n : ℕ) (f : typed.Function) (ps : List Piece) (into : ℕ)
    (here : slice_get p.frame.code p.frame.pc ≡ Some (Print ps into None)) where
  abbrev r_at : ℕ
  r_at = reference_place m.adts (types_of m f) into

  module _ (none : (s : ℕ) → slot_names (core.slot p.frame.slots into) s ≡ 0) (few : into < length p.frame.slots) (nothing : printed ps ≡ []) where
    gathers : (k : Facts) (w : Shared) (x : World) (j : ℕ) (q : Process) → (on : On m k i x (into ∷ []) n f j p q) → HoldTheSame m k i x p q
        → (sides m).worlds k w x → Gathered m b i p n f ps into None here none k w x q on.known
    gathers k w x j q on hold worlds = record {
      now = k;
      grows = record { facts = λ n f e. e; makers = λ n j e. e; forms = λ n o e. e };
      changes = nothing_changes m k i x;
      after = worlds;
      words = on.words;
      mine = on.mine;
      waits = on.waits;
      long = refl;
      unnamed = none;
    }

    -- the frame
    frame_way : (k : Facts) (x : World) (q : Process) → On m k i x (into ∷ []) n f 1 p q → HasSys k r_at q → q.made ≡ [] → HoldTheSame m k i x p q
        → Way (sides m) (place m) 5 k i x p q
    frame_way k x q on s bare hold =
        on_way m b i p q (into ∷ []) n f 1 4 k x on hold (λ now w y grows on' hold' worlds'.
        frame_step m b i p n f ps into None here none now w y 1 q on' (sys_later k now r_at q grows s) bare hold' worlds'
        (reaches_it m b i p q (into ∷ []) n f 1 now w y on' hold' worlds' (Print ps into None) here (framing m b i p n f ps into None here none) refl)
        (omega arith) 4
        (λ r c on2 s2 has2 fill2 blank held.
        rest_way m b i p n f ps into None here none few (λ k words. Unit {0}) (λ k now words grows a. tt) (λ k words others same r t a. tt)
        (λ k x words a reads. plain_formats x words ps nothing 36) gathers 2 refl (λ at. refl) (λ at. refl) (λ at. refl)
        now _ r c on2 s2 has2 fill2 tt held))

    -- Sys
    begin_row : (k : Facts) (w : Shared) (x : World) (q : Process) → (on : On m k i x [] n f 0 p q) → IsClean (held.slot on.known into) → q.made ≡ []
        → HoldTheSame m k i x p q → (sides m).worlds k w x → Next m b i p 5 k w x q
    begin_row k w x q on clean bare hold worlds =
        load_step m b i p n f ps into None here none k w x 0 q on hold worlds few clean
        (reaches_it m b i p q [] n f 0 k w x on hold worlds (Print ps into None) here
        (loading m b i p n f ps into None here none k w x 0 q on hold worlds few clean) refl)
        bare (omega arith) 5
        (λ now y r on' s' bare' held. frame_way now y r on' s' bare' held)

  pub row_goes : (k : Facts) (w : Shared) (x : World) (q : Process) → On m k i x [] n f 0 p q → q.made ≡ []
      → HoldTheSame m k i x p q → (sides m).worlds k w x → Next m b i p 5 k w x q
  row_goes k w x q on bare hold worlds =
      let there = row_code m k i x [] n f 0 p q on (Print ps into None) here in
      let found = finds m f p.frame.pc on.known (Print ps into None) on.goes there in
      let few = (uses m k i x [] p.frame q.frame (frame_is m k i x [] n f 0 p q on) p.frame.pc (Print ps into None) there).0 in
      begin_row (unnamed m k i x n f 0 p q on into few found.1) few found.0 k w x q on found.1 bare hold worlds

pub plain_prints_go : PlainPrintsGo
plain_prints_go m b ps into k i x p q ready here =
    let r = ready.0.stands in (
      5,
      (
        ready.1,
        λ now y w left h worlds.
            row_goes m b i p r.is.number r.is.function ps into here now w y q
            (on_later m i p q b k now x y left h [] r.is.number r.is.function 0
            (on_of m i p q k x [] r.is.number r.is.function 0 r refl refl (let e = ready.0.pc in omega (arith, e)) ready.0.spare)) ready.0.none_made h worlds,
      ),
    )
