-- What readers are shown was the router's label table once.
use Rattle.std.proofs.Common.{◌≡◌, ◌⊎◌, ⊎_elim, inl, inr, ◌++◌, ◌∷◌, Bool, true, false, List, [], drop, get_or, length, ap, arith, refl, subst, sym, ◌∙◌}
use Rattle.std.proofs.lemmas.List.{length-append, nil_from_length}
use Rattle.lsr_facts.specs.declared.router.Router.{Router}
use Rattle.abstract_paths.specs.declared.events.Made.{Made}
use Rattle.abstract_router.specs.States.{State}
use Rattle.abstract_router.specs.Steps.{Run, Step}
use Rattle.lookup_plane.specs.Changes.{StartsWith}
use Rattle.lookup_plane.specs.declared.change.TableChange.{TableChange}
use Rattle.run_journal.specs.Entries.{Knew, Recorded}
use Rattle.run_journal.specs.Journals.{AreShown, IsKept, IsShownMore, IsTableOnce, Journal, LeadToTable}
use Rattle.run_journal.specs.declared.entry.CountedEntry.{CountedEntry}
use Rattle.run_journal.proofs.Announcing.{lead_opening}

-- one entry more
pub shown_push : (r : Router) (es : List CountedEntry) (before between after : State) (shown next all : List TableChange) (e : CountedEntry) → AreShown r before shown es between next → Recorded r between e after
    → IsShownMore e.changes_table next all → LeadToTable r after all → AreShown r before shown (es ++ e ∷ []) after all
shown_push r [] before between after shown next all e is one more lead = (
  after,
  all,
  subst (λ (s : State). Recorded r s e after) is.0 one,
  subst (λ (cs : List TableChange). IsShownMore e.changes_table cs all) is.1 more,
  lead,
  (refl, refl),
)
shown_push r (first ∷ es) before between after shown next all e is one more lead =
    (is.0, is.1, is.2, is.3, is.4, shown_push r es is.0 between after is.1 next all e is.5 one more lead)

-- entries, and then others
pub shown_append : (r : Router) (es more : List CountedEntry) (before between after : State) (shown next all : List TableChange) → AreShown r before shown es between next → AreShown r between next more after all
    → AreShown r before shown (es ++ more) after all
shown_append r [] more before between after shown next all is others =
    subst (λ (cs : List TableChange). AreShown r before cs more after all) is.1 (subst (λ (s : State). AreShown r s next more after all) is.0 others)
shown_append r (e ∷ es) more before between after shown next all is others =
    (is.0, is.1, is.2, is.3, is.4, shown_append r es more is.0 between after is.1 next all is.5 others)

-- one step more
run_push : (r : Router) (made : List Made) (m : Made) (first between after : State) → Run r first made between → Step r between m after → Run r first (made ++ m ∷ []) after
run_push r [] m first between after is step = (after, subst (λ (s : State). Step r s m after) is step, refl)
run_push r (one ∷ made) m first between after is step = (is.0, is.1, run_push r made m is.0 between after is.2 step)

-- nothing begins with nothing alone
starts_none : (seen : List TableChange) → StartsWith [] seen → [] ≡ seen
starts_none seen starts = sym (nil_from_length seen (omega (arith, ap length starts.1, length-append seen starts.0)))

-- a beginning of a list with one more is one of the list, or all
starts_split : (xs : List TableChange) (x : TableChange) (seen : List TableChange) → StartsWith (xs ++ x ∷ []) seen → StartsWith xs seen ⊎ (seen ≡ xs ++ x ∷ [])
starts_split xs x [] starts = inl (xs, refl)
starts_split [] x (s ∷ seen) starts =
    let head : x ≡ s = ap (λ (cs : List TableChange). get_or cs 0 x) starts.1 in
    let none : [] ≡ seen = starts_none seen (starts.0, ap (drop 1) starts.1) in
    inr (λ i. sym head i ∷ sym none i)
starts_split (y ∷ xs) x (s ∷ seen) starts =
    let head : y ≡ s = ap (λ (cs : List TableChange). get_or cs 0 x) starts.1 in
    ⊎_elim (λ (more : StartsWith xs seen). inl (more.0, λ i. head i ∷ more.1 i)) (λ (all : seen ≡ xs ++ x ∷ []). inr (λ i. sym head i ∷ all i))
    (starts_split xs x seen (starts.0, ap (drop 1) starts.1))

module _ (r : Router) (opening : State) where
  -- the router knew this, and then that
  knew_more : (before after : State) (e : CountedEntry) → Knew r opening before → Recorded r before e after → Knew r opening after
  knew_more before after e knew is = (knew.0 ++ is.made ∷ [], run_push r knew.0 is.made opening before after knew.1 is.step)

  -- and what it knew after many entries
  knew_all : (es : List CountedEntry) (before after : State) (shown all : List TableChange) → AreShown r before shown es after all → Knew r opening before → Knew r opening after
  knew_all [] before after shown all is knew = subst (Knew r opening) (sym is.0) knew
  knew_all (e ∷ es) before after shown all is knew = knew_all es is.0 after is.1 all is.5 (knew_more before is.0 e knew is.2)

  -- one entry more
  tables_more : (flag : Bool) (s : State) (shown next : List TableChange) → IsShownMore flag shown next → ((seen : List TableChange) → StartsWith shown seen → IsTableOnce r opening seen) → Knew r opening s → LeadToTable r s next
      → (seen : List TableChange) → StartsWith next seen → IsTableOnce r opening seen
  tables_more false s shown next more were knew lead seen starts = were seen (subst (λ (cs : List TableChange). StartsWith cs seen) more starts)
  tables_more true s shown next more were knew lead seen starts =
      ⊎_elim (λ (old : StartsWith shown seen). were seen old) (λ (all : seen ≡ shown ++ more.0 ∷ []). (s, knew, subst (LeadToTable r s) (more.1 ∙ sym all) lead))
      (starts_split shown more.0 seen (subst (λ (cs : List TableChange). StartsWith cs seen) more.1 starts))

  -- and many
  tables_all : (es : List CountedEntry) (before after : State) (shown all : List TableChange) → AreShown r before shown es after all → Knew r opening before → ((seen : List TableChange) → StartsWith shown seen → IsTableOnce r opening seen)
      → (seen : List TableChange) → StartsWith all seen → IsTableOnce r opening seen
  tables_all [] before after shown all is knew were seen starts = were seen (subst (λ (cs : List TableChange). StartsWith cs seen) is.1 starts)
  tables_all (e ∷ es) before after shown all is knew were seen starts =
      let next : Knew r opening is.0 = knew_more before is.0 e knew is.2 in
      tables_all es is.0 after is.1 all is.5 next (tables_more e.changes_table is.0 shown is.1 is.3 were next is.4) seen starts

-- the router knew once what it knows at the base, and what it knows now
pub knew_base : (j : Journal) → IsKept j → Knew j.router j.opening j.base
knew_base j is = let h = is.history in knew_all j.router j.opening h.0 j.opening j.base [] h.1 h.2 ([], refl)

pub knew_now : (j : Journal) → IsKept j → Knew j.router j.opening j.state
knew_now j is = let h = is.history in knew_all j.router j.opening j.entries j.base j.state h.1 j.shown h.3 (knew_base j is)

-- each beginning of what readers are shown was the table of a state that the router was in
pub tables_once : (j : Journal) → IsKept j → (seen : List TableChange) → StartsWith j.shown seen → IsTableOnce j.router j.opening seen
tables_once j is =
    let h = is.history in
    tables_all j.router j.opening (h.0 ++ j.entries) j.opening j.state [] j.shown (shown_append j.router h.0 j.entries j.opening j.base j.state [] h.1 j.shown h.2 h.3) ([], refl)
    (λ seen starts. (j.opening, ([], refl), subst (LeadToTable j.router j.opening) (starts_none seen starts) (lead_opening j.router j.opening is.opened)))
