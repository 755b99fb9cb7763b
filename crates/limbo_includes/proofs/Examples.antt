-- Paths worked out by hand.
use Rattle.std.proofs.Common.{◌≡◌, refl}
use Rattle.std.specs.Prelude.{codes}
use Rattle.limbo_includes.specs.Includes.{folder_of, target}

beside : target (codes "a/b.m") (codes "c.m") ≡ codes "a/c.m"
beside = refl

below : target (codes "b.m") (codes "c/d.m") ≡ codes "c/d.m"
below = refl

not_cleaned : target (codes "/x/y/t.b") (codes "../f.m") ≡ codes "/x/y/../f.m"
not_cleaned = refl

built_in : target (codes "a/b.m") (codes "sys.m") ≡ codes "sys.m"
built_in = refl

not_built_in : target (codes "a/b.m") (codes "./sys.m") ≡ codes "a/./sys.m"
not_built_in = refl

folder_alone : folder_of (codes "a/b/") ≡ codes "a/b/"
folder_alone = refl
