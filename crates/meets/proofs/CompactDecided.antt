-- The tests on a compact message decide what it has to meet: none refuses exactly where it is five encoded texts, its
-- header is read and keeps the rules, and recipient 0 is asked for.
use mathlib.Core.Path.{◌≡◌, refl, ap, sym, subst}
use mathlib.Core.Bool.{true, not}
use mathlib.Core.Logic.{◌↔◌}
use mathlib.Core.List.{List, [], ◌∷◌, ◌++◌, append-nil}
use Prim.Native.Nat.{ℕ, ◌<◌}
use lib.Dec.{eqb, leb}
use borrow.Author.Tests.{not-false, leb-false, lt-leb}
use Rattle.prelude.specs.Any.{any}
use Rattle.rows.specs.Rows.{Entry, read_texts}
use Rattle.prelude.specs.Refusals.{Test, ◌if◌, first}
use Rattle.jose.specs.declared.Sizes.{Sizes}
use Rattle.jose.specs.HeaderRules.{recipient_order}
use Rattle.headers.specs.Components.{places, misspelled, sizes_of}
use Rattle.headers.specs.Headers.{header_text, text_order, protected_entries, object_order}
use Rattle.jwe.specs.Compact.{four_stops, compact_components, compact_order}
use Rattle.meets.specs.Rules.{Headers, Rules}
use Rattle.meets.specs.Meets.{Object, Protected, members_read, Compact}
use Rattle.meets.proofs.Deciding.{first_none}
use Rattle.meets.proofs.RulesDecided.{rules_decided}
use Rattle.meets.proofs.SpelledDecided.{Spelled, spelled_decided, spelled_header, spelled_key}
use Rattle.meets.proofs.InOrder.{first_append}
use Rattle.meets.proofs.CompactHeader.{text_decided, protected_stands, protected_object_lem}

-- A recipient that has no other header.
abbrev alone : {header : List ℕ} → Protected header → Headers
alone p = record { protected = members_read p; shared = []; own = [] }

module _ (known : List (List ℕ)) (header message : List ℕ) (key : List ℕ) (sizes : Sizes)
    (keyed : (eqb sizes.key 0 ≡ true) ↔ (key ≡ [])) where
  -- 12 to 18
  alone_decided : (p : Protected header) → Object (members_read p) →
      (first (recipient_order known (read_texts header message) (protected_entries header) sizes) ≡ 0) ↔ Rules known (alone p) key
  alone_decided p o =
      let es = protected_entries header in
      subst (λ (xs : List Entry).
      (first (recipient_order known (read_texts header message) xs sizes) ≡ 0) ↔ Rules known (alone p) key)
      (append-nil es)
      (rules_decided known (read_texts header message) (alone p) es [] [] key sizes (protected_stands header message p) tt tt
      (record { protected = o.distinct; shared = tt; own = tt }) keyed)

-- 19: the one recipient is asked for.
asked_decided : (recipient : ℕ) → (first (19 if leb 1 recipient ∷ []) ≡ 0) ↔ (recipient < 1)
unfolding any
asked_decided recipient =
    let t = first_none (19 if leb 1 recipient ∷ []) refl in (
      (λ e. leb-false 1 recipient (t.0 e).0),
      (λ h. t.1 (lt-leb 1 recipient h, tt)),
    )

-- 6 to 19 of a compact message, by its header.
abbrev header_order : List (List ℕ) → List ℕ → Sizes → ℕ → List ℕ → List Test
header_order known message sizes recipient header =
    let es = protected_entries header in
    text_order header
    ++ (object_order header es
    ++ (recipient_order known (read_texts header message) es sizes
    ++ (19 if leb 1 recipient ∷ [])))

-- What they decide.
record HeaderMeets (known : List (List ℕ)) (header key : List ℕ) (recipient : ℕ) : Type 0 where
  protected : Protected header
  object : Object (members_read protected)
  rules : Rules known (alone protected) key
  asked : recipient < 1

module _ (known : List (List ℕ)) (message : List ℕ) (recipient : ℕ) (header key : List ℕ) (sizes : Sizes)
    (keyed : (eqb sizes.key 0 ≡ true) ↔ (key ≡ [])) where
  header_decided : (first (header_order known message sizes recipient header) ≡ 0)
      ↔ HeaderMeets known header key recipient
  unfolding text_order object_order recipient_order any
  header_decided =
      let es = protected_entries header in
      let text = text_order header in
      let object = object_order header es in
      let rules = recipient_order known (read_texts header message) es sizes in
      let asked : List Test = 19 if leb 1 recipient ∷ [] in
      let a = first_append text (object ++ (rules ++ asked)) refl in
      let b = first_append object (rules ++ asked) refl in
      let c = first_append rules asked refl in (
        (λ e.
            let t = a.0 e in
            let u = b.0 t.1 in
            let v = c.0 u.1 in
            let p = (text_decided header).0 t.0 in
            let o = (protected_object_lem header p).0 u.0 in
            record {
              protected = p;
              object = o;
              rules = (alone_decided known header message key sizes keyed p o).0 v.0;
              asked = (asked_decided recipient).0 v.1;
            }),
        (λ m.
            let p = m.protected in
            a.1 (
              (text_decided header).1 p,
              b.1 (
                (protected_object_lem header p).1 m.object,
                c.1 (
                  (alone_decided known header message key sizes keyed p m.object).1 m.rules,
                  (asked_decided recipient).1 m.asked,
                ),
              ),
            )),
      )

-- All of it
module _ (known : List (List ℕ)) (message : List ℕ) (recipient : ℕ) where
  abbrev spelling_order : List Test
  spelling_order =
      4 if not (four_stops message) ∷ 5 if any (misspelled message) (places (compact_components message)) ∷ []

  spelling_order_lem : (first spelling_order ≡ 0) ↔ Spelled message
  unfolding any
  spelling_order_lem =
      let t = first_none spelling_order refl in
      let s = spelled_decided message in (
        (λ e. let h = t.0 e in s.0 (not-false (four_stops message) h.0, h.1.0)),
        (λ w. let h = s.1 w in t.1 (ap not h.0, (h.1, tt))),
      )

  abbrev sizes : Sizes
  sizes = sizes_of (compact_components message)

  spelled_meets : (s : Spelled message) →
      (first
      (header_order known message sizes recipient (header_text message (compact_components message).protected)) ≡ 0)
      ↔ HeaderMeets known s.header s.key recipient
  spelled_meets s =
      subst (λ (h : List ℕ).
      (first (header_order known message sizes recipient h) ≡ 0) ↔ HeaderMeets known s.header s.key recipient)
      (sym (spelled_header message s))
      (header_decided known message recipient s.header s.key sizes (spelled_key message s))

  pub compact_decided : (first (compact_order message known recipient) ≡ 0)
      ↔ (Compact known message × (recipient < 1))
  unfolding compact_order any
  compact_decided =
      let header = header_text message (compact_components message).protected in
      let t = first_append spelling_order (header_order known message sizes recipient header) refl in (
        (λ e.
            let h = t.0 e in
            let s = spelling_order_lem.0 h.0 in
            let m = (spelled_meets s).0 h.1 in (
              record {
                header = s.header;
                key = s.key;
                iv = s.iv;
                ciphertext = s.ciphertext;
                tag = s.tag;
                octets = s.octets;
                spelled = s.spelled;
                protected = m.protected;
                object = m.object;
                rules = m.rules;
              },
              m.asked,
            )),
        (λ w.
            let c = w.0 in
            let s : Spelled message = record {
              header = c.header;
              key = c.key;
              iv = c.iv;
              ciphertext = c.ciphertext;
              tag = c.tag;
              octets = c.octets;
              spelled = c.spelled;
            } in
            t.1 (
              spelling_order_lem.1 s,
              (spelled_meets s).1 (record {
                protected = c.protected;
                object = c.object;
                rules = c.rules;
                asked = w.1;
              }),
            )),
      )
