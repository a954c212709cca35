-- The registered names: the thirteen of RFC 7516 section 4.1 in its order, then seven of RFC 7518 (document 01).
use Rattle.std.specs.Prelude.{List, [], ◌∷◌, ℕ}
use Rattle.prelude.specs.Ascii.{ascii}

unfoldable pub registered : List (List ℕ)
registered =
    ascii "alg"
    ∷ ascii "enc"
    ∷ ascii "zip"
    ∷ ascii "jku"
    ∷ ascii "jwk"
    ∷ ascii "kid"
    ∷ ascii "x5u"
    ∷ ascii "x5c"
    ∷ ascii "x5t"
    ∷ ascii "x5t#S256"
    ∷ ascii "typ"
    ∷ ascii "cty"
    ∷ ascii "crit"
    ∷ ascii "epk"
    ∷ ascii "apu"
    ∷ ascii "apv"
    ∷ ascii "iv"
    ∷ ascii "tag"
    ∷ ascii "p2s"
    ∷ ascii "p2c"
    ∷ []
