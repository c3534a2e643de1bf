-- The rule of the queue: the passes know one key, and each item in the queue meets the fact beside it.
use Rattle.std.specs.Prelude.{◌≡◌, ◌⊎◌, List, [], ◌∷◌, Option, Some, None}
use Rattle.std.specs.List.{All}
use Rattle.lanes.specs.declared.parcel.Parcel.{Parcel}
use Rattle.lanes.specs.declared.parcel.Parcel.TheVariants.{Key, Item}

module _ {K T : Type 0} where
  -- what a pass knows that has put the parcel in first
  abbrev pub known : Parcel K T → Option K
  known (Key key) = Some key
  known (Item item) = None

  module _ (holds : K → T → Type 0) where
    -- the parcel is the key itself, or an item that meets the fact beside it
    abbrev pub Fits : K → Parcel K T → Type 0
    Fits key (Key own) = own ≡ key
    Fits key (Item item) = holds key item

    -- the same of the key that a pass knows
    abbrev pub FitsView : Option K → Parcel K T → Type 0
    FitsView view parcel = (key : K) → view ≡ Some key → Fits key parcel

    -- no pass but the first is there, it knows nothing, and nothing lies in the queue
    abbrev pub IsNew : List (Parcel K T) → List (Option K) → Type 0
    IsNew parcels views = (parcels ≡ []) × (views ≡ None ∷ [])

    -- each pass knows this key, and each parcel fits it
    abbrev pub IsFounded : K → List (Parcel K T) → List (Option K) → Type 0
    IsFounded key parcels views = All (Fits key) parcels × All (λ view. view ≡ Some key) views

    -- the rule: the handover is new, or the passes agree on some key
    abbrev pub Agreed : List (Parcel K T) → List (Option K) → Type 0
    Agreed parcels views = IsNew parcels views ⊎ ((key : K) × IsFounded key parcels views)
