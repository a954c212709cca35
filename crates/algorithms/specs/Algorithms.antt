-- The algorithms (document 01, 'Header rules'; RFC 7518): their names, their modes, and the sizes that request 10/12
-- lists.
use Rattle.std.specs.Prelude.{List, [], ◌∷◌, map, ℕ, zero, suc, Option, None, Some}
use Rattle.prelude.specs.Ascii.{ascii}
use Rattle.algorithms.specs.declared.Alg.{Alg}
use Rattle.algorithms.specs.declared.Alg.TheVariants.{Rsa15, RsaOaep, RsaOaep256, A128Kw, A192Kw, A256Kw}
use Rattle.algorithms.specs.declared.Alg.TheVariants.{A128GcmKw, A192GcmKw, A256GcmKw, Pbes2A128Kw}
use Rattle.algorithms.specs.declared.Alg.TheVariants.{Pbes2A192Kw, Pbes2A256Kw, EcdhEs, EcdhEsA128Kw}
use Rattle.algorithms.specs.declared.Alg.TheVariants.{EcdhEsA192Kw, EcdhEsA256Kw, Dir}
use Rattle.algorithms.specs.declared.Enc.{Enc}
use Rattle.algorithms.specs.declared.Enc.TheVariants.{A128CbcHs256, A192CbcHs384, A256CbcHs512, A128Gcm}
use Rattle.algorithms.specs.declared.Enc.TheVariants.{A192Gcm, A256Gcm}
use Rattle.algorithms.specs.declared.Added.{Added}
use Rattle.algorithms.specs.declared.Added.TheVariants.{Octets, Unjudged, NoKey}

-- Key management: `alg`

-- In the order of document 01's table.
unfoldable pub algs : List Alg
algs =
    Rsa15
    ∷ RsaOaep
    ∷ RsaOaep256
    ∷ A128Kw
    ∷ A192Kw
    ∷ A256Kw
    ∷ A128GcmKw
    ∷ A192GcmKw
    ∷ A256GcmKw
    ∷ Pbes2A128Kw
    ∷ Pbes2A192Kw
    ∷ Pbes2A256Kw
    ∷ EcdhEs
    ∷ EcdhEsA128Kw
    ∷ EcdhEsA192Kw
    ∷ EcdhEsA256Kw
    ∷ Dir
    ∷ []

unfoldable pub alg_name : Alg → List ℕ
alg_name Rsa15 = ascii "RSA1_5"
alg_name RsaOaep = ascii "RSA-OAEP"
alg_name RsaOaep256 = ascii "RSA-OAEP-256"
alg_name A128Kw = ascii "A128KW"
alg_name A192Kw = ascii "A192KW"
alg_name A256Kw = ascii "A256KW"
alg_name A128GcmKw = ascii "A128GCMKW"
alg_name A192GcmKw = ascii "A192GCMKW"
alg_name A256GcmKw = ascii "A256GCMKW"
alg_name Pbes2A128Kw = ascii "PBES2-HS256+A128KW"
alg_name Pbes2A192Kw = ascii "PBES2-HS384+A192KW"
alg_name Pbes2A256Kw = ascii "PBES2-HS512+A256KW"
alg_name EcdhEs = ascii "ECDH-ES"
alg_name EcdhEsA128Kw = ascii "ECDH-ES+A128KW"
alg_name EcdhEsA192Kw = ascii "ECDH-ES+A192KW"
alg_name EcdhEsA256Kw = ascii "ECDH-ES+A256KW"
alg_name Dir = ascii "dir"

-- 1 key encryption, 2 key wrapping, 3 direct agreement, 4 agreement with wrapping, 5 direct encryption.
abbrev pub mode : Alg → ℕ
mode Rsa15 = 1
mode RsaOaep = 1
mode RsaOaep256 = 1
mode A128Kw = 2
mode A192Kw = 2
mode A256Kw = 2
mode A128GcmKw = 2
mode A192GcmKw = 2
mode A256GcmKw = 2
mode Pbes2A128Kw = 2
mode Pbes2A192Kw = 2
mode Pbes2A256Kw = 2
mode EcdhEs = 3
mode EcdhEsA128Kw = 4
mode EcdhEsA192Kw = 4
mode EcdhEsA256Kw = 4
mode Dir = 5

-- The encrypted key beside the content key: wrapping adds 8 octets, by GCM none; what RSA makes is not judged; direct
-- agreement and direct encryption have no encrypted key.
abbrev pub key_added : Alg → Added
key_added Rsa15 = Unjudged
key_added RsaOaep = Unjudged
key_added RsaOaep256 = Unjudged
key_added A128Kw = Octets 8
key_added A192Kw = Octets 8
key_added A256Kw = Octets 8
key_added A128GcmKw = Octets 0
key_added A192GcmKw = Octets 0
key_added A256GcmKw = Octets 0
key_added Pbes2A128Kw = Octets 8
key_added Pbes2A192Kw = Octets 8
key_added Pbes2A256Kw = Octets 8
key_added EcdhEs = NoKey
key_added EcdhEsA128Kw = Octets 8
key_added EcdhEsA192Kw = Octets 8
key_added EcdhEsA256Kw = Octets 8
key_added Dir = NoKey

-- Octets of the parameter `iv` of the key's wrapping by GCM (RFC 7518, section 4.7.1.1); 0 where there is no such parameter.
abbrev pub key_iv : Alg → ℕ
key_iv Rsa15 = 0
key_iv RsaOaep = 0
key_iv RsaOaep256 = 0
key_iv A128Kw = 0
key_iv A192Kw = 0
key_iv A256Kw = 0
key_iv A128GcmKw = 12
key_iv A192GcmKw = 12
key_iv A256GcmKw = 12
key_iv Pbes2A128Kw = 0
key_iv Pbes2A192Kw = 0
key_iv Pbes2A256Kw = 0
key_iv EcdhEs = 0
key_iv EcdhEsA128Kw = 0
key_iv EcdhEsA192Kw = 0
key_iv EcdhEsA256Kw = 0
key_iv Dir = 0

-- Octets of its parameter `tag` (section 4.7.1.2), likewise.
abbrev pub key_tag : Alg → ℕ
key_tag Rsa15 = 0
key_tag RsaOaep = 0
key_tag RsaOaep256 = 0
key_tag A128Kw = 0
key_tag A192Kw = 0
key_tag A256Kw = 0
key_tag A128GcmKw = 16
key_tag A192GcmKw = 16
key_tag A256GcmKw = 16
key_tag Pbes2A128Kw = 0
key_tag Pbes2A192Kw = 0
key_tag Pbes2A256Kw = 0
key_tag EcdhEs = 0
key_tag EcdhEsA128Kw = 0
key_tag EcdhEsA192Kw = 0
key_tag EcdhEsA256Kw = 0
key_tag Dir = 0

-- Content encryption: `enc`

unfoldable pub encs : List Enc
encs = A128CbcHs256 ∷ A192CbcHs384 ∷ A256CbcHs512 ∷ A128Gcm ∷ A192Gcm ∷ A256Gcm ∷ []

unfoldable pub enc_name : Enc → List ℕ
enc_name A128CbcHs256 = ascii "A128CBC-HS256"
enc_name A192CbcHs384 = ascii "A192CBC-HS384"
enc_name A256CbcHs512 = ascii "A256CBC-HS512"
enc_name A128Gcm = ascii "A128GCM"
enc_name A192Gcm = ascii "A192GCM"
enc_name A256Gcm = ascii "A256GCM"

-- Octets of the content key.
abbrev pub key_size : Enc → ℕ
key_size A128CbcHs256 = 32
key_size A192CbcHs384 = 48
key_size A256CbcHs512 = 64
key_size A128Gcm = 16
key_size A192Gcm = 24
key_size A256Gcm = 32

-- Octets of the initialization vector.
abbrev pub iv_size : Enc → ℕ
iv_size A128CbcHs256 = 16
iv_size A192CbcHs384 = 16
iv_size A256CbcHs512 = 16
iv_size A128Gcm = 12
iv_size A192Gcm = 12
iv_size A256Gcm = 12

-- Octets of the authentication tag.
abbrev pub tag_size : Enc → ℕ
tag_size A128CbcHs256 = 16
tag_size A192CbcHs384 = 24
tag_size A256CbcHs512 = 32
tag_size A128Gcm = 16
tag_size A192Gcm = 16
tag_size A256Gcm = 16

-- Names

unfoldable pub alg_names : List (List ℕ)
alg_names = map alg_name algs

unfoldable pub enc_names : List (List ℕ)
enc_names = map enc_name encs

-- The compression parameter takes one value (RFC 7516, section 4.1.3).
unfoldable pub zip_names : List (List ℕ)
zip_names = ascii "DEF" ∷ []

-- The n-th of a list, counted from 1.
unfoldable pub nth : {A : Type 0} → List A → ℕ → Option A
nth [] n = None
nth (x ∷ xs) zero = None
nth (x ∷ xs) (suc zero) = Some x
nth (x ∷ xs) (suc (suc n)) = nth xs (suc n)

-- The mode of the n-th algorithm, counted from 1; 0 where there is none.
abbrev pub mode_of : Option Alg → ℕ
mode_of None = 0
mode_of (Some a) = mode a
