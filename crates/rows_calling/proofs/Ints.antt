-- What a print answers is an int.
use Rattle.std.proofs.Common.{◌≡◌, ℕ, ℤ, Bool, true, false, zero, suc, pos, ◌+◌, List, [], ◌∷◌, refl}
use Rattle.std.proofs.Common.{if◌then◌else◌}
use Rattle.std.specs.Prelude.{nat_lt}
use Rattle.styx_msg.specs.declared.message.Rmsg.{Rmsg}
use Rattle.styx_msg.specs.declared.message.Rmsg.TheVariants as rmsg
use Rattle.system_model.specs.World as outside
use Rattle.system_model.specs.World.{end_wait, wrote}
use Rattle.system_model.specs.Values.{Value, Num, int_of}
use Rattle.system_model.specs.Prints.{Printing, Answers, Requests, NoReply, Writing, print, go_on, took, refused, hear}
use Rattle.limbo_values.specs.declared.number.Kind.TheVariants.{Int}
use Rattle.limbo_values.specs.Numbers.{InRange}
use Rattle.limbo_values.proofs.Ranges.{always}

abbrev pub IsInt : Value → Type 0
IsInt v = (z : ℤ) × (v ≡ Num z) × InRange Int z

-- What it answers, where it does.
abbrev pub AnswersInt : Printing → Type 0
AnswersInt (Answers w v) = IsInt v
AnswersInt (Requests w m k) = Unit {0}
AnswersInt NoReply = Unit {0}

wraps : (z : ℤ) → IsInt (int_of z)
wraps z = (_, refl, always Int z)

pub print_int : (w : outside.World) (t : List ℕ) → AnswersInt (print w t)
print_int w [] = wraps (pos 0)
print_int w (c ∷ cs) = tt

goes_int : (w : outside.World) (n : ℕ) (bs : List ℕ) → AnswersInt (go_on w n bs)
goes_int w n [] = wraps (pos n)
goes_int w n (b ∷ bs) = tt

took_int : (w : outside.World) (k : Writing) (n : ℕ) → AnswersInt (took w k n)
took_int w k n = go (nat_lt n k.asked)
  where
    go : (b : Bool) → AnswersInt (if b then Answers w (int_of (pos (k.written + n))) else go_on w (k.written + n) k.left)
    go true = wraps (pos (k.written + n))
    go false = goes_int w (k.written + n) k.left

refused_int : (w : outside.World) (n : ℕ) → AnswersInt (refused w n)
refused_int w zero = wraps _
refused_int w (suc n) = wraps _

pub hear_int : (a : Rmsg) (w : outside.World) (k : Writing) → AnswersInt (hear a w k)
hear_int (rmsg.Write n) w k = go (nat_lt k.asked n)
  where
    go : (b : Bool) → AnswersInt (if b then NoReply else took (wrote n (end_wait k.tag w)) k n)
    go true = tt
    go false = took_int (wrote n (end_wait k.tag w)) k n
hear_int (rmsg.Error e) w k = refused_int (end_wait k.tag w) k.written
hear_int _ w k = tt
