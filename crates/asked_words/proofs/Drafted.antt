-- The names of made files in a draft are those that its options give.
use Rattle.std.proofs.Common.{◌≡◌, ℕ, Bool, Option, Some, None, List, [], ◌∷◌, ◌++◌, true, refl, sym, ap, ◌∙◌, subst, take, drop}
use Rattle.std.specs.Prelude.{codes, ⊤, IfSome, IsTrue}
use Rattle.std.specs.Option.{option_map}
use Rattle.clap.specs.Walk.{Row}
use Rattle.model_tree.specs.Tree.{Word}
use Rattle.quantity.specs.Bytes.{Bytes}
use Rattle.quantity.specs.Written.{for_some}
use Rattle.answer_model.specs.Options.{Draft, nothing_given, Field, field, word, OptionRow, option_row, built_rows, option_value, row_value, put_if, draft_of_rows, files_of_options, differ_all}
use Rattle.asked_words.specs.declared.draft.Draft as code
use Rattle.asked_words.specs.Drafts.{draft_of, given_names, MadeDiffer}
use Rattle.asked_words.proofs.Fewer.{made_differ}

-- what a value was made of
record Made {A B : Type 0} (o : Option A) (go : A → Option B) (b : B) : Type 0 where
  from : A
  is : o ≡ Some from
  gives : go from ≡ Some b

made : {A B : Type 0} (o : Option A) (go : A → Option B) (b : B) → for_some o go ≡ Some b → Made o go b
made None go b is = absurd cc
made (Some x) go b is = record { from = x; is = refl; gives = is }

-- ---- the names of made files

pub record Names : Type 0 where
  pub log : Option Word
  pub out : Option Word
  pub drawn : Option Word
  pub save : Option Word

abbrev pub names : Draft → Names
names d = record { log = d.log; out = d.out; drawn = d.drawn; save = d.save }

-- a value that names no made file
abbrev Keeps : Field → Type 0
Keeps f = (text : Word) (d e : Draft) → f text d ≡ Some e → names e ≡ names d

word_keeps : (put : Word → Draft → Draft) → ((w : Word) (d : Draft) → names (put w d) ≡ names d) → Keeps (word put)
word_keeps put same text d e is = let put_is : put text d ≡ e = cc in sym (ap names put_is) ∙ same text d

field_keeps : {A : Type 0} (form : Word → Option A) (put : A → Draft → Draft) → ((x : A) (d : Draft) → names (put x d) ≡ names d) → Keeps (field form put)
field_keeps form put same text d e is =
    let value = made (form text) (λ x. Some (put x d)) e is in
    let put_is : put value.from d ≡ e = let some : ◌≡◌ {A = Option Draft} (Some (put value.from d)) (Some e) = value.gives in cc in
    sym (ap names put_is) ∙ same value.from d

abbrev AllKeep : List OptionRow → Type 0
AllKeep [] = ⊤
AllKeep (r ∷ rs) = Keeps r.field × AllKeep rs

one_keeps : (r : OptionRow) → Keeps r.field → (o : Option Word) (d e : Draft) → put_if o r d ≡ Some e → names e ≡ names d
one_keeps r keeps None d e is = let same : d ≡ e = cc in ap names (sym same)
one_keeps r keeps (Some text) d e is = keeps text d e is

-- the draft behind some rows
record Behind (rows : List OptionRow) (given : List Row) (e : Draft) : Type 0 where
  from : Draft
  is : draft_of_rows rows given ≡ Some from
  same : names e ≡ names from

behind : (rs rows : List OptionRow) → AllKeep rs → (given : List Row) (e : Draft) → draft_of_rows (rs ++ rows) given ≡ Some e → Behind rows given e
behind [] rows keep given e is = record { from = e; is = is; same = refl }
behind (r ∷ rs) rows keep given e is =
    let first = made (draft_of_rows (rs ++ rows) given) (put_if (row_value given r) r) e is in
    let rest = behind rs rows keep.1 given first.from first.is in
    record { from = rest.from; is = rest.is; same = one_keeps r keep.0 (row_value given r) first.from e first.gives ∙ rest.same }

-- ---- the rows that name made files

abbrev with_log : Option Word → Names → Names
with_log o n = record { log = o; out = n.out; drawn = n.drawn; save = n.save }

abbrev with_out : Option Word → Names → Names
with_out o n = record { log = n.log; out = o; drawn = n.drawn; save = n.save }

abbrev with_drawn : Option Word → Names → Names
with_drawn o n = record { log = n.log; out = n.out; drawn = o; save = n.save }

abbrev with_save : Option Word → Names → Names
with_save o n = record { log = n.log; out = n.out; drawn = n.drawn; save = o }

log_is : (shown : Bytes) (o : Option Word) (d e : Draft) → put_if o (option_row (codes "l") shown true (word (λ w d. record d { log = Some w }))) d ≡ Some e → d.log ≡ None → names e ≡ with_log o (names d)
log_is shown None d e is no_log = let same : d ≡ e = cc in ap names (sym same) ∙ ap (λ o. with_log o (names d)) no_log
log_is shown (Some w) d e is no_log = let same : record d { log = Some w } ≡ e = cc in ap names (sym same)

out_is : (shown : Bytes) (o : Option Word) (d e : Draft) → put_if o (option_row (codes "o") shown true (word (λ w d. record d { out = Some w }))) d ≡ Some e → d.out ≡ None → names e ≡ with_out o (names d)
out_is shown None d e is no_out = let same : d ≡ e = cc in ap names (sym same) ∙ ap (λ o. with_out o (names d)) no_out
out_is shown (Some w) d e is no_out = let same : record d { out = Some w } ≡ e = cc in ap names (sym same)

drawn_is : (shown : Bytes) (o : Option Word) (d e : Draft) → put_if o (option_row (codes "d") shown true (word (λ w d. record d { drawn = Some w }))) d ≡ Some e → d.drawn ≡ None → names e ≡ with_drawn o (names d)
drawn_is shown None d e is no_drawn = let same : d ≡ e = cc in ap names (sym same) ∙ ap (λ o. with_drawn o (names d)) no_drawn
drawn_is shown (Some w) d e is no_drawn = let same : record d { drawn = Some w } ≡ e = cc in ap names (sym same)

save_is : (shown : Bytes) (o : Option Word) (d e : Draft) → put_if o (option_row (codes "S") shown true (word (λ w d. record d { save = Some w }))) d ≡ Some e → d.save ≡ None → names e ≡ with_save o (names d)
save_is shown None d e is no_save = let same : d ≡ e = cc in ap names (sym same) ∙ ap (λ o. with_save o (names d)) no_save
save_is shown (Some w) d e is no_save = let same : record d { save = Some w } ≡ e = cc in ap names (sym same)

-- ---- the whole table

keep_before : AllKeep (take 4 built_rows)
keep_before =
    (word_keeps _ (λ w d. refl), (field_keeps _ _ (λ x d. refl), (field_keeps _ _ (λ x d. refl), (word_keeps _ (λ w d. refl), tt))))

keep_between : AllKeep (take 7 (drop 7 built_rows))
keep_between =
    (word_keeps _ (λ w d. refl), (field_keeps _ _ (λ x d. refl), (field_keeps _ _ (λ x d. refl), (field_keeps _ _ (λ x d. refl), (field_keeps _ _ (λ x d. refl), (field_keeps _ _ (λ x d. refl), (field_keeps _ _ (λ x d. refl), tt)))))))

keep_behind : AllKeep (drop 15 built_rows)
keep_behind = (word_keeps _ (λ w d. refl), tt)

no_names : (given : List Row) (e : Draft) → draft_of_rows [] given ≡ Some e → names e ≡ names nothing_given
no_names given e is = let same : nothing_given ≡ e = cc in ap names (sym same)

pub names_are : (given : List Row) (e : Draft) → draft_of_rows built_rows given ≡ Some e → names e ≡ (let n : Names = record { log = option_value given (codes "l"); out = option_value given (codes "o"); drawn = option_value given (codes "d"); save = option_value given (codes "S") } in n)
names_are given e is =
    let a = behind (take 4 built_rows) (drop 4 built_rows) keep_before given e is in
    let l = made (draft_of_rows (drop 5 built_rows) given) _ a.from a.is in
    let o = made (draft_of_rows (drop 6 built_rows) given) _ l.from l.is in
    let d = made (draft_of_rows (drop 7 built_rows) given) _ o.from o.is in
    let b = behind (take 7 (drop 7 built_rows)) (drop 14 built_rows) keep_between given d.from d.is in
    let s = made (draft_of_rows (drop 15 built_rows) given) _ b.from b.is in
    let c = behind (drop 15 built_rows) [] keep_behind given s.from s.is in
    let none = c.same ∙ no_names given c.from c.is in
    let saved = b.same ∙ (save_is _ (option_value given (codes "S")) s.from b.from s.gives (ap (λ (n : Names). n.save) none) ∙ ap (with_save (option_value given (codes "S"))) none) in
    let pictured = drawn_is _ (option_value given (codes "d")) d.from o.from d.gives (ap (λ (n : Names). n.drawn) saved) ∙ ap (with_drawn (option_value given (codes "d"))) saved in
    let shown = out_is _ (option_value given (codes "o")) o.from l.from o.gives (ap (λ (n : Names). n.out) pictured) ∙ ap (with_out (option_value given (codes "o"))) pictured in
    let logged = log_is _ (option_value given (codes "l")) l.from a.from l.gives (ap (λ (n : Names). n.log) shown) ∙ ap (with_log (option_value given (codes "l"))) shown in
    a.same ∙ logged

-- where the files that are named differ, so do those that are made
pub made_of : (given : List Row) (r : Option code.Draft) → option_map draft_of r ≡ draft_of_rows built_rows given → differ_all (files_of_options built_rows given) ≡ true → IfSome r MadeDiffer
made_of given None is differ = tt
made_of given (Some d) is differ =
    subst (λ (n : Names). IsTrue (differ_all (given_names n.log n.out n.drawn n.save))) (sym (names_are given (draft_of d) (sym is)))
    (made_differ (option_value given (codes "m")) (option_value given (codes "e")) (option_value given (codes "l")) (option_value given (codes "o")) (option_value given (codes "d")) (option_value given (codes "S")) (option_value given (codes "R")) differ)
