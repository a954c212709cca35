-- What comes part by part: which parts are still to come, that they may, and that with them all has come. A function that
-- writes several parts has one such record: `start` opens it, `▸` takes the next part, `next` says that it may come, and `ended`
-- or `last` closes it.
use Rattle.std.proofs.Common.{◌≡◌, List, [], ◌∷◌, ◌++◌, ℕ, Bool, ap, sym, subst, refl, ◌∙◌, append_assoc}
use Rattle.json_text.specs.Inner.Led.{led, begun_after}
use Rattle.json_text.proofs.Led.{led_append, begun_append}
use Rattle.json_put.specs.Inner.Laws.{Laws}
use Rattle.json_put.specs.Inner.Members.{Point, Room, Puts}

infixl 20 ◌▸◌
abbrev pub flat : {A : Type 0} → List (List A) → List A
flat [] = []
flat (x ∷ xs) = x ++ flat xs

pub record Putting {S A : Type 0} (fits : S → List A → Type 0) (gains : S → List A → S → Type 0) (from : S) (all : List A) (parts : List (List A)) (now : S) : Type 0 where
  pub laws : Laws fits gains
  pub room : fits now (flat parts)
  pub end : (t : S) → gains now (flat parts) t → gains from all t

module _ {S A : Type 0} {fits : S → List A → Type 0} {gains : S → List A → S → Type 0} where
  pub start : Laws fits gains → (s : S) (all : List A) (parts : List (List A)) → flat parts ≡ all → fits s all →
      Putting fits gains s all parts s
  start laws s all parts e h = record {
    laws = laws;
    room = subst (λ (l : List A). fits s l) (sym e) h;
    end = λ t p. subst (λ (l : List A). gains s l t) e p;
  }

  module _ {from now : S} {all : List A} where
    pub next : {x : List A} {parts : List (List A)} → Putting fits gains from all (x ∷ parts) now → fits now x
    next {x} {parts} p = p.laws.front now x (flat parts) p.room

    pub ◌▸◌ : {x : List A} {parts : List (List A)} {then : S} → Putting fits gains from all (x ∷ parts) now → gains now x then →
        Putting fits gains from all parts then
    ◌▸◌ {x} {parts} {then} p q = record {
      laws = p.laws;
      room = p.laws.back now then x (flat parts) p.room q;
      end = λ t r. p.end t (p.laws.both now then t x (flat parts) p.room q r);
    }

    pub ended : Putting fits gains from all [] now → gains from all now
    ended p = p.end now (p.laws.none now)

    -- a part is two
    pub apart : {x y : List A} {parts : List (List A)} → (z : List A) → z ≡ x ++ y → Putting fits gains from all (z ∷ parts) now →
        Putting fits gains from all (x ∷ y ∷ parts) now
    apart {x} {y} {parts} z e p =
        let same : z ++ flat parts ≡ x ++ (y ++ flat parts) = ap (λ (l : List A). l ++ flat parts) e ∙ append_assoc x y (flat parts) in
        record {
          laws = p.laws;
          room = subst (λ (l : List A). fits now l) same p.room;
          end = λ t r. p.end t (subst (λ (l : List A). gains now l t) (sym same) r);
        }

-- Members one behind the other are octets one behind the other.
module _ {S : Type 0} {fits : S → List ℕ → Type 0} {gains : S → List ℕ → S → Type 0} (laws : Laws fits gains) where
  none : (w : Point S) → Puts gains w [] w
  unfolding led
  none w = record { octets = laws.none w.sink; begun = refl }

  room_both : (w : Point S) (ws us : List (List ℕ)) → Room fits w (ws ++ us) →
      fits w.sink (led w.begun ws ++ led (begun_after w.begun ws) us)
  room_both w ws us h = subst (λ (l : List ℕ). fits w.sink l) (led_append w.begun ws us) h

  back : (w m : Point S) (ws us : List (List ℕ)) → Room fits w (ws ++ us) → Puts gains w ws m → Room fits m us
  back w m ws us h p =
      subst (λ (b : Bool). fits m.sink (led b us)) (sym p.begun)
      (laws.back w.sink m.sink (led w.begun ws) (led (begun_after w.begun ws) us) (room_both w ws us h) p.octets)

  both : (w m v : Point S) (ws us : List (List ℕ)) → Room fits w (ws ++ us) → Puts gains w ws m → Puts gains m us v →
      Puts gains w (ws ++ us) v
  both w m v ws us h p q =
      let second : gains m.sink (led (begun_after w.begun ws) us) v.sink =
      subst (λ (b : Bool). gains m.sink (led b us) v.sink) p.begun q.octets in
      record {
        octets =
            subst (λ (l : List ℕ). gains w.sink l v.sink) (sym (led_append w.begun ws us))
            (laws.both w.sink m.sink v.sink (led w.begun ws) (led (begun_after w.begun ws) us) (room_both w ws us h) p.octets second);
        begun = q.begun ∙ ap (λ (b : Bool). begun_after b us) p.begun ∙ sym (begun_append w.begun ws us);
      }

  pub member_laws : Laws (Room fits) (Puts gains)
  member_laws = record {
    none = none;
    front = λ w ws us h. laws.front w.sink (led w.begun ws) (led (begun_after w.begun ws) us) (room_both w ws us h);
    back = back;
    both = both;
  }

  pub puts_none : (w : Point S) (ws : List (List ℕ)) → ws ≡ [] → Puts gains w ws w
  puts_none w ws e = subst (λ (l : List (List ℕ)). Puts gains w l w) (sym e) (none w)
