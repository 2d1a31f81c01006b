use Rattle.std.proofs.Common.{◌≡◌, Bool, ◌||◌, List, [], ◌∷◌, map, refl, sym, ◌∙◌, ap}
use Rattle.std.specs.List.{list_any}
use Rattle.std.specs.Str.{bytes_eq}
use Rattle.model_tree.proofs.faces.is_port_of_class.Goals as goal

any-map : {A B : Type 0} (p : B → Bool) (f : A → B) (xs : List A) → list_any p (map f xs) ≡ list_any (λ x. p (f x)) xs
any-map p f [] = refl
any-map p f (x ∷ xs) = ap (λ r. p (f x) || r) (any-map p f xs)

pub returns : goal.returns
returns c =
    rw (← c.in_ports.ensures)
    (c.is_one_of.ensures ∙ sym (any-map (bytes_eq c.args.port.now) (λ name. name.now) c.in_ports.result.now))
