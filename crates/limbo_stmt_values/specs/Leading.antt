-- What expressions in statements are where a body has come to, however many handlers the function has.
use Rattle.std.specs.Prelude.{ℕ}
use Rattle.limbo_context.specs.Context.{Context, Body}
use Rattle.limbo_stating.specs.limbo_local.Points.{Point}

abbrev pub point : Context → Body → ℕ → Point
point c b n = record { context = c; body = b; catches = n }

abbrev pub From : (Point → Type 0) → Context → Body → Type 0
From P c b = (n : ℕ) → P (point c b n)

abbrev pub Leads : (Point → Point → Type 0) → Context → Body → Body → Type 0
Leads P c b d = (n : ℕ) → P (point c b n) (point c d n)
