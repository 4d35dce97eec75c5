-- Names that are declared twice, found with a map of those that were declared before.
use Rattle.std.proofs.Common.{◌≡◌, ℕ, ◌+◌, ◌<◌, length, get_or, add-one, drop-cons, List, [], ◌∷◌, drop, Bool, cond, true, false, ◌||◌, if◌then◌else◌, refl, ap, sym, ◌∙◌}
use Rattle.std.specs.Prelude.{None, Some, is_some}
use Rattle.std.specs.List.{list_any}
use Rattle.std.specs.Str.{bytes_eq}
use Rattle.std.specs.declared.option.Option.{Option}
use Rattle.std.specs.Borrow.{Bor}
use Rattle.std.specs.BTreeMap.{BTreeMap, get_by, UpdatesBy, IsEmpty, is_at}
use Rattle.std.specs.Map.{lookup}
use Rattle.std.specs.Cmp.Lexicographic.{slice_cmp}
use Rattle.std.specs.Ordering.{nat_cmp}
use Rattle.std.proofs.lemmas.Map.Text.{btree_map_updates_str}
use Rattle.fpl_reader.specs.declared.survey.DeclaredName.{DeclaredName}
use Rattle.fpl_reader.specs.Reading.{name_of, name_twice}

abbrev pub twice_by : List ℕ → (List ℕ → Bool) → List DeclaredName → Option ℕ
twice_by text p [] = None
twice_by text p (d ∷ ds) = if p (name_of text d) then Some d.word.start else twice_by text (λ q. bytes_eq (name_of text d) q || p q) ds

pub twice_by-same : (text : List ℕ) (p r : List ℕ → Bool) (ds : List DeclaredName) → ((q : List ℕ) → p q ≡ r q) → twice_by text p ds ≡ twice_by text r ds
twice_by-same text p r [] same = refl
twice_by-same text p r (d ∷ ds) same =
    ap (λ b. if b then Some d.word.start else twice_by text (λ q. bytes_eq (name_of text d) q || p q) ds) (same (name_of text d))
    ∙ ap (λ o. if r (name_of text d) then Some d.word.start else o) (twice_by-same text (λ q. bytes_eq (name_of text d) q || p q)
    (λ q. bytes_eq (name_of text d) q || r q) ds (λ q. ap (λ b. bytes_eq (name_of text d) q || b) (same q)))

pub name_twice-by : (text : List ℕ) (before : List (List ℕ)) (ds : List DeclaredName) → name_twice text before ds ≡
    twice_by text (λ q. list_any (λ b. bytes_eq b q) before) ds
name_twice-by text before [] = refl
name_twice-by text before (d ∷ ds) = ap (λ o. if list_any (λ b. bytes_eq b (name_of text d)) before then Some d.word.start else o)
    (name_twice-by text (name_of text d ∷ before) ds)

-- whether a name is in a map of names
abbrev pub has : BTreeMap (Bor (List ℕ)) (Unit {0}) → List ℕ → Bool
has m q = is_some (get_by (λ k. slice_cmp nat_cmp q k.now) m)

some_either : (b : Bool) (o : Option (Unit {0})) → is_some (cond b (Some tt) o) ≡ (b || is_some o)
some_either true o = refl
some_either false o = refl

pub has_more : (name : List ℕ) (m n : BTreeMap (Bor (List ℕ)) (Unit {0})) → UpdatesBy (λ x y. slice_cmp nat_cmp x.now y.now)
    (λ k. slice_cmp nat_cmp name k.now) m n (Some tt)
    → (q : List ℕ) → (bytes_eq name q || has m q) ≡ has n q
has_more name m n h q = sym (ap is_some (btree_map_updates_str name m n (Some tt) h q) ∙ some_either (bytes_eq name q)
    (get_by (λ k. slice_cmp nat_cmp q k.now) m))

pub twice_step : (text name : List ℕ) (p : List ℕ → Bool) (d : DeclaredName) (ds : List DeclaredName) → name ≡ name_of text d → p name ≡ false →
    twice_by text p (d ∷ ds) ≡ twice_by text (λ q. bytes_eq name q || p q) ds
twice_step text name p d ds same e =
    ap (λ b. if b then Some d.word.start else twice_by text (λ q. bytes_eq (name_of text d) q || p q) ds) (ap p (sym same) ∙ e) ∙
    ap (λ n. twice_by text (λ q. bytes_eq n q || p q) ds) (sym same)

pub twice_more : (text name : List ℕ) (p r : List ℕ → Bool) (names : List DeclaredName) (i : ℕ) (d : DeclaredName) → i < length names →
    name ≡ name_of text (get_or names i d) → p name ≡ false
    → ((q : List ℕ) → (bytes_eq name q || p q) ≡ r q) → twice_by text p (drop i names) ≡ twice_by text r (drop (i + 1) names)
twice_more text name p r names i d inside same e more =
    let front : drop i names ≡ get_or names i d ∷ drop (i + 1) names = rw (add-one, drop-cons names i d) refl in
    ap (twice_by text p) front ∙ twice_step text name p (get_or names i d) (drop (i + 1) names) same e ∙ twice_by-same text _ r (drop (i + 1) names) more

pub has_none : (m : BTreeMap (Bor (List ℕ)) (Unit {0})) → IsEmpty m → (q : List ℕ) → false ≡ has m q
has_none m e q = sym (ap (λ es. is_some (lookup (is_at (λ k. slice_cmp nat_cmp q k.now)) es)) e)
