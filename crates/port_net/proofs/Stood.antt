-- What stands at a node that is put behind others, and stays there.
use Rattle.std.proofs.Common.{◌≡◌, ◌<◌, ◌++◌, ℕ, Bool, true, false, List, [], ◌∷◌, map, length, reverse, refl, sym, ap, ◌∙◌, subst, arith, append_assoc, append-nil}
use Rattle.std.specs.Prelude.{◌==◌}
use Rattle.std.specs.List.{AllByRecursion, flat_map, filter}
use Rattle.std.proofs.lemmas.List.{length-append, length-reverse, reverse-append, map-append}
use Rattle.std.proofs.lemmas.Bool.Decides.{nat_tests}
use Rattle.model_tree.specs.declared.link.End.{End}
use Rattle.model_tree.specs.declared.link.Link.{Link}
use Rattle.model_leaves.specs.declared.path.Source.TheVariants.{Leaf}
use Rattle.model_tree.specs.Tree.{Word}
use Rattle.model_tree.specs.Pull as P
use Rattle.model_leaves.specs.Numbered.{source_by_name}
use Rattle.port_net.specs.declared.net.Node.{Node}
use Rattle.port_net.specs.declared.net.Node.TheVariants.{Given}
use Rattle.port_net.specs.Nodes.{at_node, stands, sources_at}
use Rattle.port_net.specs.Shown.{plain_sources, Gives, AllGive, Join, IsInner, Extends, leaf_list, items_of_links}

-- ---- a node among others

passed : (ys older : List Node) (j : ℕ) → j < length older → stands (ys ++ older) j ≡ stands older j
passed [] older j h = refl
passed (y ∷ ys) older j h =
    let longer = length-append ys older in
    let other : (j == length (ys ++ older)) ≡ false = grind (arith, nat_tests) in
    rw other (passed ys older j h)

here : (ys older : List Node) (x : Node) → stands (ys ++ (x ∷ older)) (length older) ≡ at_node (stands older) x
here ys older x =
    let same : (length older == length older) ≡ true = grind (arith, nat_tests) in
    passed ys (x ∷ older) (length older) (omega arith) ∙ rw same refl

pub at-behind : (ns more : List Node) (x : Node) (k : ℕ) → k ≡ length ns → sources_at ((ns ++ x ∷ []) ++ more) k ≡ at_node (sources_at ns) x
at-behind ns more x k e =
    let order : reverse ((ns ++ x ∷ []) ++ more) ≡ reverse more ++ (x ∷ reverse ns) =
    ap reverse (append_assoc ns (x ∷ []) more) ∙ reverse-append ns (x ∷ more)
    ∙ ap (λ (t : List Node). t ++ reverse ns) (reverse-append (x ∷ []) more)
    ∙ append_assoc (reverse more) (x ∷ []) (reverse ns) in
    ap (λ (r : List Node). stands r k) order
    ∙ ap (stands (reverse more ++ (x ∷ reverse ns))) (e ∙ sym (length-reverse ns))
    ∙ here (reverse more) (reverse ns) x

-- ---- nodes that are put behind others

all-inner : (xs ys : List Node) → AllByRecursion IsInner xs → AllByRecursion IsInner ys → AllByRecursion IsInner (xs ++ ys)
all-inner [] ys g h = h
all-inner (x ∷ xs) ys g h = (g.0, all-inner xs ys g.1 h)

pub extends-none : (ns : List Node) → Extends ns ns
extends-none ns = record { more = []; grown = sym (append-nil ns); inner = tt }

pub extends-on : (a b c : List Node) → Extends a b → Extends b c → Extends a c
extends-on a b c g h =
    record {
      more = g.more ++ h.more;
      grown = h.grown ∙ ap (λ (ns : List Node). ns ++ h.more) g.grown ∙ append_assoc a g.more h.more;
      inner = all-inner g.more h.more g.inner h.inner;
    }

pub extends-by : (a b : List Node) (x : Node) → b ≡ a ++ x ∷ [] → IsInner x → Extends a b
extends-by a b x e h = record { more = x ∷ []; grown = e; inner = (h, tt) }

pub extends-as : (a b c d : List Node) → a ≡ b → c ≡ d → Extends a c → Extends b d
extends-as a b c d e f = rw (e, f) (λ h. h)

-- what holds whatever is put behind holds behind that too
kept : (F : List Node → Type 0) (a b : List Node) → Extends a b → ((more : List Node) → F (a ++ more)) → (more : List Node) → F (b ++ more)
kept F a b g h more = subst F (sym (append_assoc a g.more more) ∙ ap (λ (ns : List Node). ns ++ more) (sym g.grown)) (h (g.more ++ more))

pub gives-kept : (ins : List Word) (a b : List Node) (k : ℕ) (xs : List P.Source) → Extends a b → Gives ins a k xs → Gives ins b k xs
gives-kept ins a b k xs = kept (λ ns. plain_sources ins ns k ≡ xs) a b

pub all-kept : (ins : List Word) (a b : List Node) (ks : List ℕ) (xss : List (List P.Source)) → Extends a b → AllGive ins a ks xss → AllGive ins b ks xss
all-kept ins a b ks xss = kept (λ ns. map (plain_sources ins ns) ks ≡ xss) a b

pub join-kept : (ins : List Word) (a b : List Node) (ks : List ℕ) (xs : List P.Source) → Extends a b → Join ins a ks xs → Join ins b ks xs
join-kept ins a b ks xs = kept (λ ns. flat_map (plain_sources ins ns) ks ≡ xs) a b

-- ---- what a new node shows

map-flat : {A B : Type 0} (f : A → B) (g : ℕ → List A) (ks : List ℕ) → map f (flat_map g ks) ≡ flat_map (λ k. map f (g k)) ks
map-flat f g [] = refl
map-flat f g (k ∷ ks) = map-append f (g k) (flat_map g ks) ∙ ap (λ xs. map f (g k) ++ xs) (map-flat f g ks)

pub leaf-put : (a b : List Node) (l k : ℕ) → b ≡ a ++ Given (Leaf l) ∷ [] → k ≡ length a → (ins : List Word) → Gives ins b k (leaf_list l)
leaf-put a b l k e f ins more =
    ap (λ (ns : List Node). map (source_by_name ins) (sources_at (ns ++ more) k)) e ∙ ap (map (source_by_name ins)) (at-behind a more (Given (Leaf l)) k f)

pub joined-put : (a b : List Node) (x : Node) (ks : List ℕ) (k : ℕ) → b ≡ a ++ x ∷ [] → at_node (sources_at a) x ≡ flat_map (sources_at a) ks → k ≡ length a → (ins : List Word) (xs : List P.Source) → Join ins a ks xs → Gives ins b k xs
joined-put a b x ks k e g f ins xs h more =
    ap (λ (ns : List Node). map (source_by_name ins) (sources_at (ns ++ more) k)) e ∙ ap (map (source_by_name ins)) (at-behind a more x k f ∙ g)
    ∙ map-flat (source_by_name ins) (sources_at a) ks
    ∙ ap (λ (ns : List Node). flat_map (plain_sources ins ns) ks) (sym (append-nil a)) ∙ h []

-- one node more
pub all-more : (ins : List Word) (a b : List Node) (ks ks' : List ℕ) (k : ℕ) (xss : List (List P.Source)) (xs : List P.Source) → Extends a b → ks' ≡ ks ++ k ∷ [] → AllGive ins a ks xss → Gives ins b k xs → AllGive ins b ks' (xss ++ xs ∷ [])
all-more ins a b ks ks' k xss xs g e h one more =
    ap (map (plain_sources ins (b ++ more))) e ∙ map-append (plain_sources ins (b ++ more)) ks (k ∷ [])
    ∙ ap (λ (l : List (List P.Source)). l ++ plain_sources ins (b ++ more) k ∷ []) (all-kept ins a b ks xss g h more)
    ∙ ap (λ (x : List P.Source). xss ++ x ∷ []) (one more)

-- ---- links

pub picked-lists : {B : Type 0} (into : End → Bool) (g : ℕ → List B) (f : Link → List B) (links : List Link) (ks : List ℕ) → map g ks ≡ map f links → flat_map g (items_of_links into links ks) ≡ flat_map f (filter (λ (l : Link). into l.to) links)
picked-lists into g f [] [] e = refl
picked-lists into g f [] (k ∷ ks) e = absurd (cc)
picked-lists into g f (l ∷ ls) [] e = absurd (cc)
picked-lists {B} into g f (l ∷ ls) (k ∷ ks) e = cases (picked-lists into g f ls ks (let h : map g ks ≡ map f ls = cc in h)) (let h : g k ≡ f l = cc in h) (into l.to) refl
  where
    cases : flat_map g (items_of_links into ls ks) ≡ flat_map f (filter (λ (l : Link). into l.to) ls) → g k ≡ f l → (b : Bool) → into l.to ≡ b → flat_map g (items_of_links into (l ∷ ls) (k ∷ ks)) ≡ flat_map f (filter (λ (l : Link). into l.to) (l ∷ ls))
    cases rest first true t = rw (t, first, rest) refl
    cases rest first false t = rw (t, rest) refl

pub links-join : (ins : List Word) (ns : List Node) (into : End → Bool) (f : Link → List P.Source) (links : List Link) (ks : List ℕ) → AllGive ins ns ks (map f links) → Join ins ns (items_of_links into links ks) (flat_map f (filter (λ (l : Link). into l.to) links))
links-join ins ns into f links ks h more = picked-lists into (plain_sources ins (ns ++ more)) f links ks (h more)
