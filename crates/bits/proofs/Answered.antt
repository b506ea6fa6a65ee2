-- The needs of a function, several at once: `four tie.spec (search needs)` answers the next four by one search. Assumes nothing.

pub two : {A B : Type 0} {R : Type 2} → (A → B → R) → A × B → R
two f n = f n.0 n.1

pub three : {A B C : Type 0} {R : Type 2} → (A → B → C → R) → A × B × C → R
three f n = f n.0 n.1 n.2

pub four : {A B C D : Type 0} {R : Type 2} → (A → B → C → D → R) → A × B × C × D → R
four f n = f n.0 n.1 n.2 n.3

pub five : {A B C D E : Type 0} {R : Type 2} → (A → B → C → D → E → R) → A × B × C × D × E → R
five f n = f n.0 n.1 n.2 n.3 n.4

pub six : {A B C D E F : Type 0} {R : Type 2} → (A → B → C → D → E → F → R) → A × B × C × D × E × F → R
six f n = f n.0 n.1 n.2 n.3 n.4 n.5

pub seven : {A B C D E F G : Type 0} {R : Type 2} → (A → B → C → D → E → F → G → R) → A × B × C × D × E × F × G → R
seven f n = f n.0 n.1 n.2 n.3 n.4 n.5 n.6

pub eight : {A B C D E F G H : Type 0} {R : Type 2} → (A → B → C → D → E → F → G → H → R) → A × B × C × D × E × F × G × H → R
eight f n = f n.0 n.1 n.2 n.3 n.4 n.5 n.6 n.7

pub nine : {A B C D E F G H I : Type 0} {R : Type 2} → (A → B → C → D → E → F → G → H → I → R) → A × B × C × D × E × F × G × H × I → R
nine f n = f n.0 n.1 n.2 n.3 n.4 n.5 n.6 n.7 n.8
