pub mod Heard
pub mod Kubelet
