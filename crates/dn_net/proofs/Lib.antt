pub mod MaskLaws
