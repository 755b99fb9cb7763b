-- The digests, computed.
use Rattle.std.proofs.Common.{◌≡◌, refl}
use Rattle.md5.specs.Md5.{block_words, rounds, compress, hash_after, digest_bytes, md5}
use Rattle.link_sign.specs.Signature.{fold}
use Rattle.signed_links.specs.Signed.{ImportsSigned, LinksSigned}

pub imports_signed : ImportsSigned
unfolding fold block_words rounds compress hash_after digest_bytes md5
imports_signed = record { names = refl; signs = refl }

pub links_signed : LinksSigned
unfolding fold block_words rounds compress hash_after digest_bytes md5
links_signed n = refl
