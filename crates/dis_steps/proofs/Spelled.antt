-- Texts of exceptions are their own spelling.
use Rattle.std.proofs.Common.{◌≡◌, refl}
use Rattle.std.specs.Prelude.{encode_utf8_all}
use Rattle.limbo_values.specs.declared.raised.Raised.TheVariants.{ZeroDivide, ArrayBounds, StringTooLong}
use Rattle.dis_places.specs.declared.fault.Raise.{Raise}
use Rattle.dis_places.specs.declared.fault.Raise.TheVariants as raise
use Rattle.dis_places.specs.Words.{raised_text}

pub exceptions_ascii : (r : Raise) → encode_utf8_all (raised_text r) ≡ raised_text r
unfolding lib.Utf8.encode
exceptions_ascii raise.Nil = refl
exceptions_ascii raise.Negative = refl
exceptions_ascii raise.Large = refl
exceptions_ascii raise.NotLoaded = refl
exceptions_ascii raise.BadFormat = refl
exceptions_ascii (raise.Value ZeroDivide) = refl
exceptions_ascii (raise.Value ArrayBounds) = refl
exceptions_ascii (raise.Value StringTooLong) = refl
