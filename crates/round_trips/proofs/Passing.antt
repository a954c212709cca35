-- When neither refuses: the writer's tests, and the reader's on a compact message, one by one. Both ask the same of the
-- header and of the key.
use mathlib.Core.Path.{◌≡◌, refl, ap, ap₂, sym, subst, ◌∙◌}
use mathlib.Core.Bool.{Bool, true, false, not, ◌||◌, cond}
use mathlib.Core.Logic.{◌↔◌}
use mathlib.Core.List.{List, [], ◌∷◌, ◌++◌}
use Prim.Native.Nat.{ℕ, ◌≤◌, ◌<◌}
use lib.ListN.{length}
use lib.Dec.{leb, ltb}
use borrow.Author.Tests.{not-false, ltb-false, le-ltb, leb-false, lt-leb}
use Rattle.names.specs.Names.{names, sound}
use Rattle.grammar.specs.Reader.{opens_object}
use Rattle.prelude.specs.Any.{any}
use Rattle.prelude.specs.Refusals.{Test, ◌if◌, first}
use Rattle.rows.specs.Rows.{read_texts}
use Rattle.jose.specs.declared.Sizes.{Sizes}
use Rattle.jose.specs.HeaderRules.{recipient_order}
use Rattle.prelude.specs.Limits.{longest, header_room, list_room}
use Rattle.headers.specs.Components.{sizes_of}
use Rattle.headers.specs.Headers.{header_text, text_order, protected_entries, object_order}
use Rattle.jwe.specs.Compact.{four_stops, compact_components, compact_spelled, compact_order}
use Rattle.jwe.specs.General.{json_order}
use Rattle.jwe.specs.Judge.{Call, order, refusal}
use Rattle.jwe_write.specs.Write.{Raw, raw_sizes, compact_text, writer_rules, write_order, write_refusal}
use Rattle.meets.proofs.Deciding.{first_none, or_false}
use Rattle.meets.proofs.InOrder.{first_append}
use Rattle.meets.proofs.SpelledDecided.{Spelled, spelled_sizes, spelled_header, spelled_sizes_lem, spelled_decided}
use Rattle.round_trips.proofs.OneHeader.{header_rules}

-- None of 6 to 18 refuses a header, with components of some sizes.
pub record HeaderPasses (known : List (List ℕ)) (header : List ℕ) (sizes : Sizes) : Type 0 where
  pub text : first (text_order header) ≡ 0
  pub object : first (object_order header (protected_entries header)) ≡ 0
  pub rules : first (writer_rules known header (protected_entries header) sizes) ≡ 0

-- The writer

pub record WritePasses (c : Raw) (known : List ℕ) (room : ℕ) : Type 0 where
  pub list : sound known ≡ true
  pub header : HeaderPasses (names known) c.header (raw_sizes c)
  pub size : length (compact_text c) ≤ longest
  pub fits : length (compact_text c) ≤ room

module _ (c : Raw) (known : List ℕ) (room : ℕ) where
  pub write_decided : (write_refusal c known room ≡ 0) ↔ WritePasses c known room
  unfolding write_refusal write_order text_order object_order any
  write_decided =
      let es = protected_entries c.header in
      let size = length (compact_text c) in
      let list : List Test = 3 if not (sound known) ∷ [] in
      let text = text_order c.header in
      let object = object_order c.header es in
      let rules = writer_rules (names known) c.header es (raw_sizes c) in
      let sizes : List Test = 2 if ltb longest size ∷ 1 if ltb room size ∷ [] in
      let l = first_none list refl in
      let a = first_append list (text ++ (object ++ (rules ++ sizes))) refl in
      let b = first_append text (object ++ (rules ++ sizes)) refl in
      let d = first_append object (rules ++ sizes) refl in
      let e = first_append rules sizes refl in
      let s = first_none sizes refl in (
        (λ z.
            let h = a.0 z in
            let i = b.0 h.1 in
            let j = d.0 i.1 in
            let k = e.0 j.1 in
            let n = s.0 k.1 in
            record {
              list = not-false (sound known) (l.0 h.0).0;
              header = record { text = i.0; object = j.0; rules = k.0 };
              size = ltb-false longest size n.0;
              fits = ltb-false room size n.1.0;
            }),
        (λ w.
            a.1 (
              l.1 (ap not w.list, tt),
              b.1 (
                w.header.text,
                d.1 (
                  w.header.object,
                  e.1 (
                    w.header.rules,
                    s.1 (le-ltb longest size w.size, (le-ltb room size w.fits, tt)),
                  ),
                ),
              ),
            )),
      )

-- The reader

module _ (known : List (List ℕ)) (message : List ℕ) (recipient : ℕ) where
  -- 4 and 5
  abbrev spelling : List Test
  spelling = compact_spelled message

  spelling_decided : (first spelling ≡ 0) ↔ Spelled message
  unfolding any
  spelling_decided =
      let t = first_none spelling refl in
      let s = spelled_decided message in (
        (λ e. let h = t.0 e in s.0 (not-false (four_stops message) h.0, h.1.0)),
        (λ w. let h = s.1 w in t.1 (ap not h.0, (h.1, tt))),
      )

  -- 6 to 19, by the header and the sizes of the components.
  abbrev others : List ℕ → Sizes → List Test
  others header sizes =
      let es = protected_entries header in
      text_order header
      ++ (object_order header es ++ (recipient_order known (read_texts header message) es sizes ++ (19 if leb 1 recipient ∷ [])))

  others_decided : (header : List ℕ) (sizes : Sizes) →
      (first (others header sizes) ≡ 0) ↔ (HeaderPasses known header sizes × (recipient < 1))
  unfolding text_order object_order recipient_order any
  others_decided header sizes =
      let es = protected_entries header in
      let object = object_order header es in
      let rules = recipient_order known (read_texts header message) es sizes in
      let asked : List Test = 19 if leb 1 recipient ∷ [] in
      let a = first_append (text_order header) (object ++ (rules ++ asked)) refl in
      let b = first_append object (rules ++ asked) refl in
      let d = first_append rules asked refl in
      let e = first_none asked refl in
      let same = header_rules known header message sizes in (
        (λ z.
            let h = a.0 z in
            let i = b.0 h.1 in
            let j = d.0 i.1 in (
              record { text = h.0; object = i.0; rules = sym same ∙ j.0 },
              leb-false 1 recipient (e.0 j.1).0,
            )),
        (λ w.
            a.1 (
              w.0.text,
              b.1 (w.0.object, d.1 (same ∙ w.0.rules, e.1 (lt-leb 1 recipient w.1, tt))),
            )),
      )

  -- What is asked of a compact message, by the octets that it spells.
  abbrev Asked : Spelled message → Type 0
  Asked s = HeaderPasses known s.header (spelled_sizes s) × (recipient < 1)

  spelled_asked : (s : Spelled message) →
      (first (others (header_text message (compact_components message).protected) (sizes_of (compact_components message))) ≡ 0)
      ↔ Asked s
  spelled_asked s =
      let both = ap₂ others (spelled_header message s) (spelled_sizes_lem message s) in
      subst (λ (l : List Test). (first l ≡ 0) ↔ Asked s) (sym both) (others_decided s.header (spelled_sizes s))

  pub compact_decided : (first (compact_order message known recipient) ≡ 0) ↔ ((s : Spelled message) × Asked s)
  unfolding compact_order any
  compact_decided =
      let q = compact_components message in
      let t = first_append spelling (others (header_text message q.protected) (sizes_of q)) refl in (
        (λ e. let h = t.0 e in let s = spelling_decided.0 h.0 in (s, (spelled_asked s).0 h.1)),
        (λ w. t.1 (spelling_decided.1 w.0, (spelled_asked w.0).1 w.1)),
      )

-- What is lent, and the list of names.
pub record LentPasses (c : Call) : Type 0 where
  pub header : header_room ≤ c.header_lent
  pub table : list_room ≤ c.list_lent
  pub size : length c.message ≤ longest
  pub list : sound c.known ≡ true

module _ (c : Call) (compact : opens_object c.message ≡ false) where
  abbrev lent : List Test
  lent =
      1 if (ltb c.header_lent header_room || ltb c.list_lent list_room)
      ∷ 2 if ltb longest (length c.message)
      ∷ 3 if not (sound c.known)
      ∷ []

  pub read_decided : (refusal c ≡ 0)
      ↔ (LentPasses c × (first (compact_order c.message (names c.known) c.recipient) ≡ 0))
  unfolding refusal order any
  read_decided =
      let json = json_order c.message (names c.known) c.recipient in
      let rest = compact_order c.message (names c.known) c.recipient in
      let l = first_none lent refl in
      let o = or_false (ltb c.header_lent header_room) (ltb c.list_lent list_room) in
      let t = first_append lent (cond (opens_object c.message) json rest) refl in
      let same : first (cond (opens_object c.message) json rest) ≡ first rest =
      ap (λ (b : Bool). first (cond b json rest)) compact in (
        (λ e.
            let h = t.0 e in
            let f = l.0 h.0 in
            let r = o.0 f.0 in (
              record {
                header = ltb-false c.header_lent header_room r.0;
                table = ltb-false c.list_lent list_room r.1;
                size = ltb-false longest (length c.message) f.1.0;
                list = not-false (sound c.known) f.1.1.0;
              },
              sym same ∙ h.1,
            )),
        (λ w.
            let p = w.0 in
            t.1 (
              l.1 (
                o.1 (le-ltb c.header_lent header_room p.header, le-ltb c.list_lent list_room p.table),
                (le-ltb longest (length c.message) p.size, (ap not p.list, tt)),
              ),
              same ∙ w.1,
            )),
      )
