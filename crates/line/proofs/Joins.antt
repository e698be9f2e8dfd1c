-- Lists that are joined from parts of parts.
use Rattle.std.proofs.Common.{◌≡◌, List, [], ◌∷◌, ◌++◌, refl, ap, ◌∙◌}
use Rattle.std.proofs.lemmas.Grind.{flat_map-append}
use Rattle.std.specs.List.{flat_map}

pub joined_joined :
    {X Y A : Type 0} (f : X → List A) (g : Y → List X) (h : Y → List A) →
    ((y : Y) → flat_map f (g y) ≡ h y) →
    (ys : List Y) →
    flat_map f (flat_map g ys) ≡ flat_map h ys
joined_joined f g h same [] = refl
joined_joined f g h same (y ∷ ys) =
    flat_map-append f (g y) (flat_map g ys) ∙ ap (λ xs. xs ++ flat_map f (flat_map g ys)) (same y)
    ∙ ap (λ xs. h y ++ xs) (joined_joined f g h same ys)
