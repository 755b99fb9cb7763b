-- The first process of a machine has a frame whose serial was given.
use Rattle.std.proofs.Common.{◌≡◌, [], Option, Some, None, subst, arith}
use Rattle.std.specs.Prelude.{slice_get}
use Rattle.dis_file.specs.declared.object.Object.{Object}
use Rattle.system_model.specs.World.{opening_world}
use Rattle.dis_meaning.specs.Words.{blank}
use Rattle.dis_meaning.specs.World.{World}
use Rattle.dis_meaning.specs.Process.{Process}
use Rattle.inf_text.specs.Options.{◌>>=◌}
use Rattle.dis_meaning.specs.Opening.{Opened, opened, opening_blocks, entered, with_items}
use Rattle.dis_meaning.specs.Given.{HasGiven}

abbrev Begins : Opened → Type 0
Begins m = HasGiven m.world m.first

begins_on : {S : Type 0} (o : Option S) (f : S → Option Opened) → ((s : S) (m : Opened) → f s ≡ Some m → Begins m) → (m : Opened) → (o >>= f) ≡ Some m → Begins m
begins_on None f g m e = absurd cc
begins_on (Some s) f g m e = g s m e

-- What it begins with.
abbrev both : World → Process → Opened
both x p = record { world = x; first = p }

begins_with : (x : World) (p : Process) (m : Opened) → HasGiven x p → Some (both x p) ≡ Some m → Begins m
begins_with x p m h e = let same : both x p ≡ m = cc in subst Begins same h

pub begins_given : (o : Object) (m : Opened) → opened o ≡ Some m → HasGiven m.world m.first
begins_given o m e =
    begins_on (slice_get o.types 0) _ (λ data_type m e. begins_on (with_items (record { words = blank data_type; texts = [] }) o.items) _ (λ d m e.
    begins_on (slice_get o.types o.entry_type) _ (λ frame_type m e.
    begins_with (record { blocks = opening_blocks d; frames = 1; outside = opening_world }) (entered o (blank frame_type)) m (record { running = omega arith; waiting = tt; made = tt }) e) m e) m e) m e
