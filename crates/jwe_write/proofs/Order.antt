-- The writer's first refusal, stage by stage: that of the first stage that refuses; and the answers by it.
use mathlib.Core.Path.{◌≡◌, refl, ap, sym, ◌∙◌}
use mathlib.Core.Bool.{Bool, true, false, not, cond}
use mathlib.Core.List.{List, [], ◌∷◌, ◌++◌, append_assoc}
use Prim.Native.Nat.{ℕ, ◌≤◌, ◌<◌}
use native.Mathlib.Omega.{arith}
use lib.ListN.{length}
use lib.Dec.{ltb}
use borrow.Author.Tests.{lt-ltb, le-ltb}
use Rattle.prelude.specs.Buffer.{written}
use Rattle.names.specs.Names.{names, sound}
use Rattle.prelude.specs.Refusals.{Test, ◌if◌, first}
use Rattle.prelude.proofs.Outputs.{writes_refused, writes_done}
use Rattle.prelude.proofs.Refusals.{nonzero, nonzero_append, first_fails, first_passes, first_skip}
use Rattle.prelude.specs.Limits.{longest}
use Rattle.grammar.specs.Reader.{read_text}
use Rattle.json_read.specs.Inner.Ends.{found_of}
use Rattle.json_read.specs.declared.Found.{Found}
use Rattle.std.specs.Prelude as std
use Rattle.jose.specs.declared.Sizes.{Sizes}
use Rattle.headers.specs.Headers.{unread, text_order, protected_entries, object_order}
use Rattle.headers.proofs.Texts.{no_value, by_reading}
use Rattle.headers.proofs.Stages.{text_nonzero, object_nonzero, stopped}
use Rattle.jwe_write.specs.Write.{Raw, raw_sizes, compact_text, writer_rules, parameters_order, write_order, write_refusal}
use Rattle.jwe_write.specs.Answers.{WritesCompact}
use Rattle.prelude.specs.Refusals.{Passed, Refused}

-- 6 and 7 on a header, by its length and its reading

module _ (header : List ℕ) where
  pub unread_is : {answer : std.Option Found} → answer ≡ found_of (read_text 12 header) → unread header ≡ no_value answer
  unfolding unread
  unread_is a = sym (ap no_value a ∙ by_reading (read_text 12 header))

  pub text_6 : 4096 < length header → first (text_order header) ≡ 6
  unfolding first text_order
  text_6 h = ap (λ (b : Bool). cond b 6 (cond (unread header) 7 0)) (lt-ltb 4096 (length header) h)

  module _ (h : length header ≤ 4096) where
    by_reading_first : first (text_order header) ≡ cond (unread header) 7 0
    unfolding first text_order
    by_reading_first = ap (λ (b : Bool). cond b 6 (cond (unread header) 7 0)) (le-ltb 4096 (length header) h)

    pub text_7 : unread header ≡ true → first (text_order header) ≡ 7
    text_7 e = by_reading_first ∙ ap (λ (b : Bool). cond b 7 0) e

    pub text_0 : unread header ≡ false → first (text_order header) ≡ 0
    text_0 e = by_reading_first ∙ ap (λ (b : Bool). cond b 7 0) e

parameters_nonzero : (known : List (List ℕ)) (header : List ℕ) (z : Sizes) → nonzero (parameters_order known header z) ≡ true
parameters_nonzero known header z =
    nonzero_append (object_order header (protected_entries header)) _ (object_nonzero header (protected_entries header))
    refl

module _ (c : Raw) (known : List ℕ) (room : ℕ) where
  abbrev texts : List Test
  texts = text_order c.header

  abbrev rules : List Test
  rules = parameters_order (names known) c.header (raw_sizes c)

  abbrev sizes : List Test
  sizes = 2 if ltb longest (length (compact_text c)) ∷ 1 if ltb room (length (compact_text c)) ∷ []

  -- the order as the code goes
  as_coded : write_refusal c known room ≡ first (3 if not (sound known) ∷ (texts ++ (rules ++ sizes)))
  unfolding write_refusal write_order
  as_coded =
      let es = protected_entries c.header in
      ap (λ (ts : List Test). first (3 if not (sound known) ∷ (texts ++ ts)))
      (sym (append_assoc (object_order c.header es)
      (writer_rules (names known) c.header es (raw_sizes c)) sizes))

  pub refusal_names : sound known ≡ false → write_refusal c known room ≡ 3
  refusal_names e = as_coded ∙ first_fails (3 if not (sound known)) (texts ++ (rules ++ sizes)) (ap not e)

  module _ (sounds : sound known ≡ true) where
    behind_3 : write_refusal c known room ≡ first (texts ++ (rules ++ sizes))
    behind_3 = as_coded ∙ first_passes (3 if not (sound known)) (texts ++ (rules ++ sizes)) (ap not sounds)

    pub refusal_text : (n : ℕ) → first texts ≡ n → 0 < n → write_refusal c known room ≡ n
    refusal_text n e h = behind_3 ∙ stopped texts (rules ++ sizes) (text_nonzero c.header) n e h

    module _ (read : first texts ≡ 0) where
      behind_7 : write_refusal c known room ≡ first (rules ++ sizes)
      behind_7 = behind_3 ∙ first_skip texts (rules ++ sizes) (text_nonzero c.header) read

      rules_numbers : nonzero rules ≡ true
      rules_numbers = parameters_nonzero (names known) c.header (raw_sizes c)

      pub refusal_rules : (n : ℕ) → first rules ≡ n → 0 < n → write_refusal c known room ≡ n
      refusal_rules n e h = behind_7 ∙ stopped rules sizes rules_numbers n e h

      module _ (ruled : first rules ≡ 0) where
        behind_18 : write_refusal c known room ≡ first sizes
        behind_18 = behind_7 ∙ first_skip rules sizes rules_numbers ruled

        pub refusal_long : longest < length (compact_text c) → write_refusal c known room ≡ 2
        refusal_long h =
            behind_18 ∙ first_fails (2 if ltb longest (length (compact_text c))) _ (lt-ltb longest (length (compact_text c)) h)

        module _ (short : length (compact_text c) ≤ longest) where
          behind_2 : write_refusal c known room ≡ first (1 if ltb room (length (compact_text c)) ∷ [])
          behind_2 =
              behind_18
              ∙ first_passes (2 if ltb longest (length (compact_text c))) _ (le-ltb longest (length (compact_text c)) short)

          pub refusal_room : room < length (compact_text c) → write_refusal c known room ≡ 1
          refusal_room h =
              behind_2 ∙ first_fails (1 if ltb room (length (compact_text c))) [] (lt-ltb room (length (compact_text c)) h)

          pub refusal_none : length (compact_text c) ≤ room → write_refusal c known room ≡ 0
          unfolding first
          refusal_none h =
              behind_2 ∙ first_passes (1 if ltb room (length (compact_text c))) [] (le-ltb room (length (compact_text c)) h)

-- The answers

module _ (c : Raw) (known out : List ℕ) where
  pub refuses : (n : ℕ) → write_refusal c known (length out) ≡ n → 0 < n → WritesCompact c known out (Refused n) out
  refuses n e h = writes_refused (write_refusal c known (length out)) (compact_text c) out n (sym e) (λ z. omega (arith, z, h))

  pub accepts : write_refusal c known (length out) ≡ 0 → (n : ℕ) (last : List ℕ) → n ≡ length (compact_text c) →
      last ≡ written 0 (compact_text c) out → WritesCompact c known out (Passed n) last
  accepts = writes_done (write_refusal c known (length out)) (compact_text c) out
