-- 10 on the top level, 11, and 8, 9 and 10 on each element of `recipients` refuse as the table says.
use mathlib.Core.Path.{◌≡◌, ap, sym, subst, ◌∙◌}
use mathlib.Core.Bool.{Bool, true, false, cond, false≢true}
use mathlib.Core.Logic.{◌↔◌, inl, inr}
use mathlib.Core.List.{List, [], ◌∷◌, ◌++◌, map, flat_map}
use Prim.Native.Nat.{ℕ, ◌≤◌}
use native.Mathlib.Omega.{arith}
use lib.ListN.{length, length-map}
use lib.Dec.{ltb}
use borrow.Author.Tests.{ltb-false, le-ltb}
use Rattle.prelude.specs.Ascii.{ascii}
use Rattle.grammar.specs.Grammar.{Value}
use Rattle.grammar.specs.Places.{Element}
use Rattle.grammar.specs.Bounds.{Every}
use Rattle.grammar.specs.Reader.{elements_at}
use Rattle.rows.specs.Rows.{Entry, present, value_of}
use Rattle.prelude.specs.Refusals.{Test, ◌if◌, first}
use Rattle.headers.specs.Headers.{object_order}
use Rattle.shape.specs.Shape.{member_names, wrong_top, wrong_elements}
use Rattle.shape.specs.Recipients.{element_entries, element_order, elements_order}
use Rattle.meets.specs.Members.{Member, members_of, elements_of}
use Rattle.meets.specs.Meets.{Object, Recipients, TopShape, RecipientsIn}
use Rattle.meets.proofs.OneForOne.{OneForOne, zip_length}
use Rattle.meets.proofs.NamesApart.{few_decided, distinct_decided}
use Rattle.meets.proofs.MemberEntries.{Holds}
use Rattle.meets.proofs.Lookups.{Lookup, missing, single, of_only, only_named, only_there, none_named}
use Rattle.meets.proofs.ShapeDecided.{element_shape_decided, top_shape_decided}
use Rattle.meets.proofs.RecipientsDecided.{Formed, ObjectStands, element_holds, objects_stand, order_is, recipients_found}
use Rattle.refusals.specs.Table.{Table, rule, given, Refuses}
use Rattle.refusals.specs.Numbers.{elements_table}
use Rattle.refusals.proofs.Steps.{step, step_two, kept, there}

-- Objects that have kept them.
all_kept : (rs : List (List Member)) → Every Formed rs → (t : Table) (k : ℕ) → Refuses t k →
    Refuses (elements_table rs t) k
unfolding elements_table
all_kept [] h t k r = r
all_kept (ms ∷ rs) h t k r =
    kept 8 _ k h.0.0.few λ few.
    kept 9 _ k h.0.0.distinct λ once.
    kept 10 _ k h.0.1 λ shape.
    all_kept rs h.1 t k r

module _ (message : List ℕ) where
  abbrev element_tests : Element → List Test
  element_tests x = element_order message x.start

  -- The elements, each in turn.
  elements_refuse : (vs : List Value) (ys : List Element) → OneForOne (ObjectStands message) vs ys →
      (t : Table) (ts : List Test) → (Every Formed (map members_of vs) → Refuses t (first ts)) →
      Refuses (elements_table (map members_of vs) t) (first (flat_map element_tests ys ++ ts))
  unfolding elements_table element_order object_order flat_map
  elements_refuse [] [] z t ts f = f tt
  elements_refuse [] (y ∷ ys) z t ts f = absurd z
  elements_refuse (v ∷ vs) [] z t ts f = absurd z
  elements_refuse (v ∷ vs) (y ∷ ys) z t ts f =
      let ms = members_of v in
      let es = element_entries message y.start in
      let h = element_holds message v y z.0 in
      step 8 _ _ _ (few_decided member_names message 1 ms es h.entries) λ few.
      step 9 _ _ _ (distinct_decided member_names message 1 ms es h.entries) λ once.
      step 10 _ _ _ (element_shape_decided message ms es h.held) λ shape.
      elements_refuse vs ys z.1 t ts λ all. f ((record { few = few; distinct = once }, shape), all)

module _ (message : List ℕ) (ps : List Member) (es : List Entry) (h : Holds message ps es) (object : Object ps) where
  abbrev Found : Type 0
  Found = (rs : List (List Member)) × RecipientsIn ps rs

  abbrev Five : Type 0
  Five = Lookup message (ascii "recipients") ps (value_of 5 es) (present 5 es)

  abbrev ys : List Element
  ys = elements_at 12 message (value_of 5 es).start

  module _ (T : Found → Table) (ts : List Test) where
    abbrev few_table : Found → Table
    few_table g = rule 11 (length g.0 ≤ 8) λ few. elements_table g.0 (T g)

    -- The tests where there is `recipients`, and where there is none.
    abbrev elements_tests : Bool → List Test
    elements_tests b =
        cond b (10 if wrong_elements ys ∷ (11 if ltb 8 (length ys) ∷ flat_map (element_tests message) ys)) [] ++ ts

    abbrev shape_table : Table
    shape_table = rule 10 (TopShape ps) λ shape. given Found few_table

    module _ (f : TopShape ps → (g : Found) → Every Formed g.0 → Refuses (T g) (first ts)) where
      -- Flattened

      flat_refuses : TopShape ps → (g : Found) → (g.0 ≡ ps ∷ []) → Refuses (few_table g) (first ts)
      flat_refuses shape g is =
          let formed = subst (λ (us : List (List Member)). Every Formed us) (sym is) ((object, shape.recipient), tt) in
          kept 11 _ _ (omega (arith, ap length is)) λ few.
          all_kept g.0 formed (T g) (first ts) (f shape g formed)

      -- General
      general_refuses : (v : Value) (shape : TopShape ps) (g : Found) → (g.0 ≡ map members_of (elements_of v)) →
          OneForOne (ObjectStands message) (elements_of v) ys →
          Refuses (few_table g) (first (11 if ltb 8 (length ys) ∷ (flat_map (element_tests message) ys ++ ts)))
      general_refuses v shape g is z =
          let many : length g.0 ≡ length ys =
          ap length is ∙ length-map (elements_of v) members_of ∙ zip_length (ObjectStands message) (elements_of v) ys z in
          step 11 _ _ _ (
            (λ e. let b = ltb-false 8 (length ys) e in omega arith),
            (λ b. le-ltb 8 (length ys) (omega arith)),
          ) λ few.
          subst (λ (us : List (List Member)).
          Refuses (elements_table us (T g)) (first (flat_map (element_tests message) ys ++ ts))) (sym is)
          (elements_refuse message (elements_of v) ys z (T g) ts
          (λ all. f shape g (subst (λ (us : List (List Member)). Every Formed us) (sym is) all)))

      pub shape_refuses : Five → Refuses shape_table (first (10 if wrong_top message es ∷ (elements_order message es ++ ts)))
      shape_refuses five = cases five
        where
          decided : ((wrong_top message es ≡ false) × (present 5 es ≡ true → wrong_elements ys ≡ false)) ↔ TopShape ps
          decided = top_shape_decided message ps es h.held five

          by : (b : Bool) → present 5 es ≡ b →
              Refuses shape_table (first (10 if wrong_top message es ∷ elements_tests b)) →
              Refuses shape_table (first (10 if wrong_top message es ∷ (elements_order message es ++ ts)))
          by b t r =
              subst (λ (us : List Test). Refuses shape_table (first (10 if wrong_top message es ∷ (us ++ ts))))
              (sym (order_is message es b t)) r

          cases : Five → Refuses shape_table (first (10 if wrong_top message es ∷ (elements_order message es ++ ts)))
          cases (missing t a e) =
              by false t
              (step 10 _ _ _ (
                (λ w. decided.0 (w, λ u. absurd (false≢true (sym t ∙ u)))),
                (λ s. (decided.1 s).0),
              ) λ shape.
              there few_table (first ts) (recipients_found message ps es five) λ g. flat shape g g.1)
            where
              flat : TopShape ps → (g : Found) → RecipientsIn ps g.0 → Refuses (few_table g) (first ts)
              flat shape g (inl j) = flat_refuses shape g j.1
              flat shape g (inr (u, n, j)) = absurd (none_named (ascii "recipients") ps u a n)
          cases (single v t o) =
              by true t
              (step_two 10 _ _ _ _ (
                (λ w. decided.0 (w.0, λ u. w.1)),
                (λ s. let d = decided.1 s in (d.0, d.1 t)),
              ) λ shape.
              there few_table _ (recipients_found message ps es five) λ g. general shape g g.1)
            where
              general : TopShape ps → (g : Found) → RecipientsIn ps g.0 →
                  Refuses (few_table g) (first (11 if ltb 8 (length ys) ∷ (flat_map (element_tests message) ys ++ ts)))
              general shape g (inl j) =
                  absurd (only_there message (ascii "recipients") ps (value_of 5 es) v o j.0)
              general shape g (inr (u, n, j)) =
                  let same = only_named message (ascii "recipients") ps (value_of 5 es) v o u n in
                  general_refuses v shape g (j ∙ ap (λ (x : Value). map members_of (elements_of x)) same)
                  (objects_stand message ps es five v o
                  (of_only message (ascii "recipients") ps (value_of 5 es) v o Recipients shape.recipients))
