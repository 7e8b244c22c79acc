-- the image, the show and the guest
pub mod Numbers
pub mod PlainImage
pub mod Image
pub mod Show
pub mod Ospf
-- proofs that two states with one image are equal; the last stands in the guest's `image_tells`
pub mod Prefixfree
pub mod PortTells
pub mod DatabaseTells
pub mod ImageTells
