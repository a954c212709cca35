-- A fingerprint of octets, in 32 bits. Any function would do: equal strings have equal fingerprints, so that a
-- difference tells two names apart. That they are equal says nothing.
use Rattle.std.specs.Prelude.{List, [], ◌∷◌, ℕ, ◌+◌, ◌*◌, ◌%◌}

-- One octet more.
abbrev pub mixed : ℕ → ℕ → ℕ
mixed h c = (h * 16777619 + c + 1) % 4294967296

unfoldable pub fingerprint_from : ℕ → List ℕ → ℕ
fingerprint_from h [] = h
fingerprint_from h (c ∷ w) = fingerprint_from (mixed h c) w

unfoldable pub fingerprint : List ℕ → ℕ
fingerprint w = fingerprint_from 2166136261 w
